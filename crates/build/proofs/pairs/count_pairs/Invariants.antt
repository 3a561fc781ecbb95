use Rattle.build.specs.Counting.{Counting}
use Rattle.build.proofs.pairs.count_pairs.Given as goal

abbrev pub invariant-loop-from : goal.invariant-loop-from
invariant-loop-from l = Counting l.text l.initial.work l.work l.places l.left l.from l.at

abbrev pub decreases-loop-from : goal.decreases-loop-from
decreases-loop-from l = l.left
