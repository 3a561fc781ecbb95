-- `walk::region::chunks` meets its contract. The invariant: the chunks that are left, from here, give the whole. Assumes nothing.
use Rattle.walk.specs.RegionTurns.{Going}
use Rattle.walk.proofs.region.chunks.Given as goal

abbrev pub invariant-loop-i : goal.invariant-loop-i
invariant-loop-i l = Going l.file l.initial.work l.at l.work l.c.at l.i
