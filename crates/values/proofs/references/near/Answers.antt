use Rattle.std.proofs.Common.{arith}
use Rattle.values.proofs.references.near.Goals as goal

pub over-base-requires : goal.over-base-requires
over-base-requires c = omega (arith, c.loop-size.invariant)

pub loop-size-preserved : goal.loop-size-preserved
loop-size-preserved c = omega (arith, c.loop-size.invariant, c.over-base.ensures)
