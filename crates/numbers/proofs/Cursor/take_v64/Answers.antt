use Rattle.std.proofs.Common.{arith}
use Rattle.numbers.proofs.V64Laws.{taken-one, taken-two, taken-three}
use Rattle.numbers.proofs.Cursor.take_v64.Goals as goal

pub returns-then-a-lt128 : goal.returns-then-a-lt128
returns-then-a-lt128 c = taken-one (omega arith) _ c.wide-a.ensures.0 c.if-a-lt128.true

pub returns-then-b-lt128 : goal.returns-then-b-lt128
returns-then-b-lt128 c = taken-two (omega arith) _ c.wide-a.ensures.0 c.if-a-lt128.false c.wide-a.ensures.1 _ c.wide-b.ensures.0 c.if-b-lt128.true

pub returns-then-c-lt128 : goal.returns-then-c-lt128
returns-then-c-lt128 c = taken-three (omega arith) _ c.wide-a.ensures.0 c.if-a-lt128.false c.wide-a.ensures.1 _ c.wide-b.ensures.0 c.if-b-lt128.false c.wide-b.ensures.1 _ c.wide-c.ensures.0 c.if-c-lt128.true
