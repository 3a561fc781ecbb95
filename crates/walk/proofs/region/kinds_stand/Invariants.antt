-- `walk::region::kinds_stand` meets its contract. The invariant: the fields that are left give the whole. Assumes nothing.
use Rattle.walk.specs.Stand.{StandSoFar}
use Rattle.walk.proofs.region.kinds_stand.Given as goal

abbrev pub invariant-loop-i : goal.invariant-loop-i
invariant-loop-i l = StandSoFar l.work l.from l.i
