use Rattle.std.proofs.Common.{arith, length-set}
use Rattle.words.specs.Stored.{short-stored}
use Rattle.words.proofs.write.store_short.Goals as goal

pub bounds-out-hundreds : goal.bounds-out-hundreds
bounds-out-hundreds c = rw length-set (omega (arith, c.reached-3.ensures.1, c.reached-2.ensures.1, c.reached.ensures.1))

pub bounds-out-tens : goal.bounds-out-tens
bounds-out-tens c = rw (length-set, length-set) (omega (arith, c.reached-3.ensures.1, c.reached-2.ensures.1, c.reached.ensures.1))

pub bounds-out-ones : goal.bounds-out-ones
bounds-out-ones c = rw (length-set, length-set, length-set) (omega (arith, c.reached-3.ensures.1, c.reached-2.ensures.1, c.reached.ensures.1))

pub returns : goal.returns
returns c = (short-stored _ _ _ c.requires.0 c.reached.ensures.0 c.reached-2.ensures.0 c.reached-3.ensures.0, omega (arith, c.reached-3.ensures.1, c.reached-2.ensures.1, c.reached.ensures.1))
