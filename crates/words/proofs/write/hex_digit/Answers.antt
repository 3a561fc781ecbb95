use Rattle.std.proofs.Common.{arith}
use Rattle.words.specs.Hexes.{shifted, no_digit}
use Rattle.words.proofs.write.hex_digit.Goals as goal

pub returns-then-k-lt16 : goal.returns-then-k-lt16
returns-then-k-lt16 c = rw (shifted c.args.k)

pub returns : goal.returns
returns c = rw (no_digit c.args.x c.args.k (omega arith) (omega arith))
