-- `lookups::objects::stride` meets its contract. Assumes nothing.
use Rattle.std.proofs.Common.{◌-◌, ◌<◌}
use Rattle.lookups.proofs.objects.stride.Given as goal

abbrev pub invariant-loop-span : goal.invariant-loop-span
invariant-loop-span l = (0 < l.span) × (l.span < 2048)

abbrev pub decreases-loop-span : goal.decreases-loop-span
decreases-loop-span l = l.i - l.span
