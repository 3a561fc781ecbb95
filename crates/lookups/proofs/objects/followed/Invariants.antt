-- `lookups::objects::followed` meets its contract: what is found is looked at. Assumes nothing.
use Rattle.std.proofs.Common.{◌<◌, get_or}
use Rattle.lookups.proofs.objects.followed.Given as goal

abbrev pub invariant-loop-before : goal.invariant-loop-before
invariant-loop-before l = l.place < get_or l.work 3 0

abbrev pub decreases-loop-before : goal.decreases-loop-before
decreases-loop-before l = l.place
