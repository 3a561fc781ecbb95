-- `lookups::objects::back` meets its contract. Assumes nothing.
use Rattle.std.proofs.Common.{◌≤◌}
use Rattle.lookups.proofs.objects.back.Given as goal

abbrev pub invariant-loop-span : goal.invariant-loop-span
invariant-loop-span l = l.place ≤ l.i

abbrev pub decreases-loop-span : goal.decreases-loop-span
decreases-loop-span l = l.span
