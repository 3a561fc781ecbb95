-- `walk::region::stands` meets its contract: a law for each of its three ways out. Assumes nothing.
use Rattle.std.proofs.Common.{arith}
use Rattle.walk.specs.Stand.{constant-stands, map-stands, element-stands}
use Rattle.walk.proofs.region.stands.Goals as goal

pub returns-then-kind-le4 : goal.returns-then-kind-le4
returns-then-kind-le4 c = constant-stands _ _ c.if-kind-le4.true

pub returns-then-kind-eq20 : goal.returns-then-kind-eq20
returns-then-kind-eq20 c = map-stands _ _ c.if-kind-eq20.true c.all_named.ensures

pub returns : goal.returns
returns c = element-stands _ _ (omega arith) c.if-kind-eq20.false c.is_named.ensures
