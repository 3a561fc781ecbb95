use Rattle.build.specs.Again.{Going}
use Rattle.build.proofs.again.pairs_again.Given as goal

abbrev pub invariant-loop-from : goal.invariant-loop-from
invariant-loop-from l = Going l.text l.places l.initial.work l.initial.out l.work l.left l.out l.from l.at

abbrev pub decreases-loop-from : goal.decreases-loop-from
decreases-loop-from l = l.left
