-- `lookups::named::pool_of` meets its contract. Assumes nothing.
use Rattle.std.proofs.Common.{arith}
use Rattle.lookups.specs.Named.{pool-none, pool-some}
use Rattle.lookups.proofs.named.pool_of.Goals as goal

pub returns-then-memo-lt33 : goal.returns-then-memo-lt33
returns-then-memo-lt33 c = pool-none c.recall_type-memo.ensures c.if-memo-lt33.true

pub returns : goal.returns
returns c = pool-some c.recall_type-memo.ensures (omega (arith, c.if-memo-lt33.false)) c.base_pool.ensures
