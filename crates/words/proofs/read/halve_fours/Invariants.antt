use Rattle.words.specs.Pairs.{Halved}
use Rattle.words.proofs.read.halve_fours.Given as goal

abbrev pub invariant-loop-i : goal.invariant-loop-i
invariant-loop-i l = Halved l.fours l.pairs l.i
