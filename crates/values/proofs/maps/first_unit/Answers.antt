use Rattle.std.proofs.Common.{arith}
use Rattle.values.specs.Unpacked.{unit-start, unit-fits, unit-more, unit-done}
use Rattle.values.proofs.maps.first_unit.Goals as goal

pub loop-init : goal.loop-init
loop-init c = unit-start _ c.requires.0

pub overflow_mul-unit : goal.overflow_mul-unit
overflow_mul-unit c = omega (arith, unit-fits c.loop.invariant c.requires.1 c.loop-test.true)

pub loop-preserved : goal.loop-preserved
loop-preserved c = unit-more c.loop.invariant c.loop-test.true

pub returns : goal.returns
returns c = unit-done c.loop.invariant c.loop-test.false
