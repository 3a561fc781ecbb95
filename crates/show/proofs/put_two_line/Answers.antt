use Rattle.std.proofs.Common.{arith}
use Rattle.lay.specs.Laid.{most}
use Rattle.show.specs.Single.{line-stored, line-laid}
use Rattle.show.specs.Lines.{two-stored, two-laid}
use Rattle.show.proofs.put_two_line.Goals as goal

pub returns-then-room-ge46 : goal.returns-then-room-ge46
unfolding most
returns-then-room-ge46 c = line-stored (omega arith) c.store_val.ensures (two-stored _ _ c.store_decimal-first.ensures.0 c.store_byte-second.ensures c.store_decimal-end.ensures.0) c.store_byte.ensures
    (omega (arith, c.store_byte.ensures.next, c.store_decimal-end.ensures.1, c.store_byte-second.ensures.next, c.store_decimal-first.ensures.1, c.room.ensures, c.if-room-ge46.true))

pub returns : goal.returns
returns c = line-laid c.put_bytes-word.ensures (two-laid _ _ c.put_decimal-first.ensures c.put-second.ensures c.put_decimal-end.ensures) c.put.ensures
