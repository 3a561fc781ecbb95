use Rattle.std.proofs.Common.{arith}
use lib.Count.{trailing_le}
use Rattle.numbers.proofs.WordLaws.{passed-word}
use Rattle.numbers.proofs.Cursor.pass_v64.Goals as goal

pub overflow_cast-result : goal.overflow_cast-result
overflow_cast-result c = omega (arith, trailing_le 64 c.ends-marked.result)

pub overflow_add-result : goal.overflow_add-result
overflow_add-result c = omega (arith, trailing_le 64 c.ends-marked.result)

pub overflow_add-result-2 : goal.overflow_add-result-2
overflow_add-result-2 c = omega (arith, trailing_le 64 c.ends-marked.result)

pub returns : goal.returns
returns c = passed-word (record { is = c.low_first.ensures; room = omega arith; small = λ i. omega (arith, c.type_inv.s i) }) c.ends-marked.ensures (omega arith)
