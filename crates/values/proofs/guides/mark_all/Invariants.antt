use Rattle.std.proofs.Common.{◌≡◌, ◌-◌, length}
use Rattle.values.proofs.guides.mark_all.Given as goal

abbrev pub invariant-loop-i : goal.invariant-loop-i
invariant-loop-i l = length l.guide ≡ 65

abbrev pub decreases-loop-i : goal.decreases-loop-i
decreases-loop-i l = length l.last - l.i
