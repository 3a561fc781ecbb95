use Rattle.std.proofs.Common.{drop}
use Rattle.lay.specs.Laid.{Leads}
use Rattle.lay.proofs.put_some.Given as goal

abbrev pub invariant-loop-b : goal.invariant-loop-b
invariant-loop-b l = Leads l.initial.out l.at l.s l.out l.p (drop l.b-index l.s)
