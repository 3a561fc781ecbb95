use Rattle.std.proofs.Common.{◌-◌}
use Rattle.lay.specs.Laid.{Leads}
use Rattle.lines.specs.Lines.{olds}
use Rattle.lines.proofs.put_olds.Given as goal

abbrev pub invariant-loop : goal.invariant-loop
invariant-loop l = Leads l.initial.out l.at (olds l.n) l.out l.p (olds (l.n - l.counter))
