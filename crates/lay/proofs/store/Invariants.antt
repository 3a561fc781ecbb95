use Rattle.lay.specs.Laid.{Storing}
use Rattle.lay.proofs.store.Given as goal

abbrev pub invariant-loop-i : goal.invariant-loop-i
invariant-loop-i l = Storing l.initial.out l.at l.s l.out l.i
