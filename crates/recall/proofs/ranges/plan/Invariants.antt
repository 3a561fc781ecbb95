-- The invariant: the first t types have their places. Assumes nothing.
use Rattle.recall.specs.Groups.{Planning}
use Rattle.recall.proofs.ranges.plan.Given as goal

abbrev pub invariant-loop-t : goal.invariant-loop-t
invariant-loop-t l = Planning l.kinds l.starts l.places l.t l.k
