use Rattle.std.proofs.Common.{arith}
use Rattle.numbers.proofs.Cursor.fixed.Goals as goal

pub returns-then-width-eq8 : goal.returns-then-width-eq8
returns-then-width-eq8 c = rw c.if-width-eq8.true (c.be.ensures.reads (omega arith))
