-- The invariant: the ranges of the types from t on stand where they belong. Assumes nothing.
use Rattle.table.specs.View.{log_of}
use Rattle.lookups.specs.Group.{Grouping}
use Rattle.lookups.proofs.ranges.group.Given as goal

abbrev pub invariant-loop-t : goal.invariant-loop-t
invariant-loop-t l = Grouping l.kinds (log_of l.work) l.starts l.first l.last l.t l.k
