-- The invariant: ranges from the place that was met last on were gathered, and all of them if they have as many objects. Assumes
-- nothing.
use Rattle.table.specs.View.{log_of}
use Rattle.lookups.specs.Gather.{Linking}
use Rattle.lookups.proofs.ranges.gather_linked.Given as goal

abbrev pub invariant-loop-sum : goal.invariant-loop-sum
invariant-loop-sum l = Linking l.t (log_of l.work) l.to l.initial.first l.initial.last l.first l.last l.met l.k l.sum

abbrev pub decreases-loop-sum : goal.decreases-loop-sum
decreases-loop-sum l = l.met
