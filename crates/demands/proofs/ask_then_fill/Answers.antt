use Rattle.std.proofs.Common.{arith}
use Rattle.walk.specs.FileLaws.{all-bytes}
use Rattle.demands.specs.Pair.{asked-none, asked-filled}
use Rattle.demands.proofs.ask_then_fill.Goals as goal

pub returns-in-Ok : goal.returns-in-Ok
returns-in-Ok c = asked-filled _ _ _ _ _ _ _ c.count_values-a.ensures c.in-Ok.is c.room_for-room.ensures (all-bytes c.args.file.now (λ i. omega (arith, c.type_inv.file i))) _ c.fill_values-b.ensures

pub returns-in-Err : goal.returns-in-Err
returns-in-Err c = asked-none _ _ _ _ _ _ _ c.count_values-a.ensures c.in-Err.is
