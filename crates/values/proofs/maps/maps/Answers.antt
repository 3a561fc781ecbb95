use Rattle.std.proofs.Common.{arith}
use Rattle.numbers.specs.Cursors.{handed}
use Rattle.values.specs.Turns.{turning-start, turning-next, turning-no, turning-done}
use Rattle.values.specs.Ways.{map_in}
use Rattle.values.specs.MapChunks.{maps-checked}
use Rattle.values.proofs.maps.maps.Goals as goal

pub loop-init : goal.loop-init
loop-init c = turning-start (map_in _ _ _ _ _ _) _ _ _

pub map-requires : goal.map-requires
map-requires c = record { in_bounds = (c.requires.0, c.requires.1); at_in_bounds = c.loop.invariant.inside (omega arith) }

pub returns-in_err-next : goal.returns-in_err-next
returns-in_err-next c = rw (handed c.from_residual.ensures.1) (maps-checked (omega (arith, c.requires.0)) c.requires.1 (turning-no c.loop.invariant c.loop-test.true c.map.ensures c.in_err-next.was))

pub loop-preserved : goal.loop-preserved
loop-preserved c = turning-next c.loop.invariant c.loop-test.true c.map.ensures c.in_ok-next.was

pub returns : goal.returns
returns c = maps-checked (omega (arith, c.requires.0)) c.requires.1 (turning-done c.loop.invariant 0 c.loop-test.false)
