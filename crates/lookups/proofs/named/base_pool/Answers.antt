use Rattle.lookups.specs.Named.{pool-sub, pool-base}
use Rattle.lookups.proofs.named.base_pool.Goals as goal

pub returns-then-super_of-ne0 : goal.returns-then-super_of-ne0
returns-then-super_of-ne0 c = pool-sub _ _ _ c.super_of.ensures c.if-super_of-ne0.true

pub returns : goal.returns
returns c = pool-base _ _ _ c.super_of.ensures c.if-super_of-ne0.false c.objects_of.ensures.value
