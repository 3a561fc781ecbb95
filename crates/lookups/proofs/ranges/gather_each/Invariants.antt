-- The invariant: the ranges from the i-th on were gathered. Assumes nothing.
use Rattle.std.proofs.Common.{◌≤◌, length}
use Rattle.table.specs.View.{log_of}
use Rattle.lookups.specs.Gather.{Gathering}
use Rattle.lookups.proofs.ranges.gather_each.Given as goal

abbrev pub invariant-loop-i : goal.invariant-loop-i
invariant-loop-i l = (l.i ≤ length (log_of l.work)) × Gathering l.t (log_of l.work) l.to l.initial.first l.initial.last l.first l.last l.i l.k
