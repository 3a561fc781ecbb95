use Rattle.words.specs.Pairs.{Foured}
use Rattle.words.proofs.read.copy_fours.Given as goal

abbrev pub invariant-loop-i : goal.invariant-loop-i
invariant-loop-i l = Foured l.t l.at l.fours l.i
