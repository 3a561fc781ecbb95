use Rattle.std.proofs.Common.{arith}
use Rattle.table.specs.Tells.{not_entered}
use Rattle.reader.proofs.known.known_type.Goals as goal

pub returns-then-n-gt127 : goal.returns-then-n-gt127
returns-then-n-gt127 c = λ lt. absurd (omega arith)

pub returns-then-n-eq0 : goal.returns-then-n-eq0
returns-then-n-eq0 c = λ lt. absurd (omega arith)

pub returns-then-strings-n : goal.returns-then-strings-n
returns-then-strings-n c = λ lt. absurd (omega arith)

pub returns-then-not-is_called : goal.returns-then-not-is_called
returns-then-not-is_called c = λ lt. absurd (omega arith)

pub returns-then-not-none_from : goal.returns-then-not-none_from
returns-then-not-none_from c = λ lt. absurd (omega arith)

pub returns : goal.returns
returns c = λ lt. record { low = omega arith; byte = omega arith; high = omega (arith, c.strings.ensures, c.if-strings-n.false); called = c.is_called.ensures c.if-not-is_called.false; first = rw c.block.ensures at (not_entered c.args.work.now c.block.result c.likely_type-t.result (c.none_from.ensures c.if-not-none_from.false)) }
