use Rattle.std.proofs.Common.{arith}
use Rattle.calls.specs.Column.{no_room, room-enough}
use Rattle.calls.proofs.asks.store_in_room.Goals as goal

pub returns-then-out-w : goal.returns-then-out-w
returns-then-out-w c = no_room _ _ _ _ (omega arith)

pub store_values-requires : goal.store_values-requires
store_values-requires c = (c.requires, omega arith)

pub returns : goal.returns
returns c = room-enough _ _ _ _ (omega arith) c.store_values.ensures
