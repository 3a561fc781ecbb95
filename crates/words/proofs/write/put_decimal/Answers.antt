use Rattle.std.proofs.Common.{arith}
use Rattle.lay.specs.Laid.{most}
use Rattle.words.specs.Stored.{stored-laid}
use Rattle.words.proofs.write.put_decimal.Goals as goal

pub returns-then-room-ge20 : goal.returns-then-room-ge20
unfolding most
returns-then-room-ge20 c = stored-laid (omega arith) (omega (arith, c.store_decimal.ensures.1, c.room.ensures, c.if-room-ge20.true)) c.store_decimal.ensures.0
