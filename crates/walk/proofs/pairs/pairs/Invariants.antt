use Rattle.walk.specs.PairTurns.{PairsGoing}
use Rattle.walk.proofs.pairs.pairs.Given as goal

abbrev pub invariant-loop-at : goal.invariant-loop-at
invariant-loop-at l = PairsGoing l.file l.initial.work l.work l.left l.at

abbrev pub decreases-loop-at : goal.decreases-loop-at
decreases-loop-at l = l.left
