use Rattle.std.proofs.Common.{arith}
use Rattle.lay.specs.Laid.{most, laid_then, laid_as}
use Rattle.words.specs.Stored.{stored-laid}
use Rattle.words.specs.Signs.{bits-low, bits-high}
use Rattle.words.proofs.write.put_integer.Goals as goal

pub returns-then-room-ge21 : goal.returns-then-room-ge21
unfolding most
returns-then-room-ge21 c = stored-laid (omega arith) (omega (arith, c.store_integer.ensures.1, c.room.ensures, c.if-room-ge21.true)) c.store_integer.ensures.0

pub returns-then-bits-lt-HALF : goal.returns-then-bits-lt-HALF
returns-then-bits-lt-HALF c = laid_as c.put_some_digits.ensures (bits-low _ (omega arith))

pub returns : goal.returns
returns c = laid_as (laid_then c.put-next.ensures c.put_some_digits-2.ensures) (bits-high _ (omega arith))
