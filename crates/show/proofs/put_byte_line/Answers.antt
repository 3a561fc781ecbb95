use Rattle.std.proofs.Common.{arith}
use Rattle.lay.specs.Laid.{most}
use Rattle.show.specs.Single.{line-stored, line-laid}
use Rattle.show.proofs.put_byte_line.Goals as goal

pub returns-then-room-ge26 : goal.returns-then-room-ge26
unfolding most
returns-then-room-ge26 c = line-stored (omega arith) c.store_val.ensures c.store_byte-end.ensures c.store_byte.ensures (omega (arith, c.store_byte.ensures.next, c.store_byte-end.ensures.next, c.room.ensures, c.if-room-ge26.true))

pub returns : goal.returns
returns c = line-laid c.put_bytes-word.ensures c.put-end.ensures c.put.ensures
