use Rattle.std.proofs.Common.{◌-◌, length}
use Rattle.values.specs.RangeLaws.{Searched}
use Rattle.values.proofs.references.search.Given as goal

abbrev pub invariant-loop-i : goal.invariant-loop-i
invariant-loop-i l = Searched l.ranges.first.now l.ranges.last.now l.n l.i

abbrev pub decreases-loop-i : goal.decreases-loop-i
decreases-loop-i l = length l.ranges.first.now - l.i
