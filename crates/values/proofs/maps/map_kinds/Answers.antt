use Rattle.std.proofs.Common.{refl, arith}
use Rattle.values.specs.Unpacked.{unpack-start, unit-some, unpack-on, unpack-done}
use Rattle.values.proofs.maps.map_kinds.Goals as goal

pub first_unit-unit-requires : goal.first_unit-unit-requires
first_unit-unit-requires c = (c.requires.0, c.requires.1)

pub loop-i-init : goal.loop-i-init
loop-i-init c = unpack-start _ _ _ _ c.requires.0 c.first_unit-unit.ensures

pub nonzero_div-kinds : goal.nonzero_div-kinds
nonzero_div-kinds c = omega (arith, unit-some c.loop-i.invariant c.loop-i-test.true)

pub offset_bounds-kinds-i : goal.offset_bounds-kinds-i
offset_bounds-kinds-i c = omega (arith, c.requires.1, c.requires.2)

pub bounds-kinds-i : goal.bounds-kinds-i
bounds-kinds-i c = omega (arith, c.loop-i.invariant.long, c.requires.1, c.requires.2)

pub nonzero_rem-rest : goal.nonzero_rem-rest
nonzero_rem-rest c = omega (arith, unit-some c.loop-i.invariant c.loop-i-test.true)

pub loop-i-preserved : goal.loop-i-preserved
loop-i-preserved c = unpack-on c.loop-i.invariant c.loop-i-test.true

pub shape_of-kinds : goal.shape_of-kinds
shape_of-kinds c = c.loop-i.invariant.long

pub returns : goal.returns
returns c = (refl, unpack-done c.loop-i.invariant c.loop-i-test.false (omega (arith, c.requires.1, c.requires.2)))
