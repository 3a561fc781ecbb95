use Rattle.words.specs.ReadDecimals.{Sure}
use Rattle.words.proofs.read.Place.natural.Given as goal

abbrev pub invariant-loop-p : goal.invariant-loop-p
invariant-loop-p l = Sure l.t l.at l.v l.p
