use Rattle.std.proofs.Common.{◌∙◌, arith}
use Rattle.values.specs.Quick.{quick-none, quick-object}
use Rattle.values.proofs.maps.linked_bounds.Goals as goal

pub returns-then-own-eq1 : goal.returns-then-own-eq1
returns-then-own-eq1 c =
    let (width, low, high) = c.number_bounds.ensures in
    quick-object _ _ _ c.requires c.ranges_of-own.ensures c.ranges_of-own.result.as_long c.if-own-eq1.true width
    (low ∙ c.from.ensures) (high ∙ c.from-then-own-eq1.ensures) (omega (arith, high, c.from-then-own-eq1.ensures))

pub returns : goal.returns
returns c strings pools = quick-none _ (omega (arith, c.wide_bounds.ensures))
