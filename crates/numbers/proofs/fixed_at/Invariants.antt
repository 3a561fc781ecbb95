use Rattle.numbers.proofs.FixedLaws.{Summed}
use Rattle.numbers.proofs.fixed_at.Given as goal

abbrev pub invariant-loop-i : goal.invariant-loop-i
invariant-loop-i l = Summed l.s l.at l.width l.x l.i
