use Rattle.std.proofs.Common.{arith}
use lib.Count.{leading_le}
use Rattle.numbers.proofs.WordLaws.{ran-nine, ran_many}
use Rattle.numbers.proofs.Cursor.past_v64s.Goals as goal

pub returns-then-marked-eq0 : goal.returns-then-marked-eq0
returns-then-marked-eq0 c = ran-nine (record { is = c.low_first.ensures; room = omega arith; small = λ i. omega (arith, c.type_inv.s i) }) c.ends-marked.ensures (omega arith) c.if-marked-eq0.true

pub overflow_sub-next : goal.overflow_sub-next
overflow_sub-next c = omega (arith, leading_le 64 c.ends-marked.result)

pub returns : goal.returns
returns c = rw c.from-count.ensures (ran_many (record { is = c.low_first.ensures; room = omega arith; small = λ i. omega (arith, c.type_inv.s i) }) c.ends-marked.ensures c.if-marked-eq0.false)
