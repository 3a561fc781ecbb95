use Rattle.std.proofs.Common.{arith}
use Rattle.numbers.proofs.V64Laws.{none-there, one-there, two-read, three-read}
use Rattle.numbers.proofs.Cursor.v64.Goals as goal

pub returns-then-s-at : goal.returns-then-s-at
returns-then-s-at c = rw c.refuse.ensures (none-there _ _ c.if-s-at.true)

pub returns-then-b-lt128 : goal.returns-then-b-lt128
returns-then-b-lt128 c = one-there _ _ _ (omega arith) c.wide-b.ensures.0 c.if-b-lt128.true

pub returns-then-second-lt128 : goal.returns-then-second-lt128
returns-then-second-lt128 c = two-read _ _ _ _ (omega arith) c.wide-b.ensures.0 c.wide-second.ensures.0 c.if-b-lt128.false c.wide-b.ensures.1 c.if-second-lt128.true

pub returns-then-third-lt128 : goal.returns-then-third-lt128
returns-then-third-lt128 c = three-read _ _ _ _ _ (omega arith) c.wide-b.ensures.0 c.wide-second.ensures.0 c.wide-third.ensures.0 c.if-b-lt128.false c.wide-b.ensures.1 c.if-second-lt128.false c.wide-second.ensures.1 c.if-third-lt128.true
