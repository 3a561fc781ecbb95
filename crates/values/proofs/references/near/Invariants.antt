use Rattle.std.proofs.Common.{◌+◌, ◌≤◌, length}
use Rattle.values.proofs.references.near.Given as goal

abbrev pub invariant-loop-size : goal.invariant-loop-size
invariant-loop-size l = l.base + l.size ≤ length l.last

abbrev pub decreases-loop-size : goal.decreases-loop-size
decreases-loop-size l = l.size
