use Rattle.std.proofs.Common.{arith}
use Rattle.words.specs.Stored.{stored_more, sets-lasts}
use Rattle.words.proofs.write.store_long.Goals as goal

pub returns-then-x-lt1000000000000 : goal.returns-then-x-lt1000000000000
returns-then-x-lt1000000000000 c = (stored_more 8 c.requires.0 c.store_short-p.ensures.0 c.store_eight.ensures, omega (arith, c.store_short-p.ensures.1))

pub returns-then-x-lt10000000000000000 : goal.returns-then-x-lt10000000000000000
returns-then-x-lt10000000000000000 c = (stored_more 12 (omega arith) c.store_short-p-then-x-lt10000000000000000.ensures.0 (sets-lasts _ _ 4 8 _ c.store_four.ensures c.store_eight-then-x-lt10000000000000000.ensures), omega (arith, c.store_short-p-then-x-lt10000000000000000.ensures.1))

pub returns : goal.returns
returns c = (stored_more 16 (omega arith) c.store_short-p-2.ensures.0 (sets-lasts _ _ 8 8 _ c.store_eight-2.ensures c.store_eight-3.ensures), omega (arith, c.store_short-p-2.ensures.1))
