use Rattle.std.proofs.Common.{arith}
use Rattle.words.specs.Stored.{digit-stored, stored_more}
use Rattle.words.proofs.write.store_decimal.Goals as goal

pub returns-then-x-lt10 : goal.returns-then-x-lt10
returns-then-x-lt10 c = (digit-stored c.if-x-lt10.true, omega arith)

pub returns-then-x-lt10000 : goal.returns-then-x-lt10000
returns-then-x-lt10000 c = (c.store_short.ensures.0, omega (arith, c.store_short.ensures.1))

pub returns-then-x-lt100000000 : goal.returns-then-x-lt100000000
returns-then-x-lt100000000 c = (stored_more 4 (omega arith) c.store_short-p.ensures.0 c.store_four.ensures, omega (arith, c.store_short-p.ensures.1))
