use Rattle.std.proofs.Common.{refl, arith}
use mir.Facts.{Fits-of_lt}
use lib.Count.{trailing_le}
use Rattle.numbers.proofs.WordLaws.{nine-fits, took-nine, in-word, took-bit}
use Rattle.numbers.proofs.long_v64.Goals as goal

pub overflow_add-result : goal.overflow_add-result
overflow_add-result c = Fits-of_lt (nine-fits c.low_first-x.result c.wide-ninth.result c.wide-ninth.ensures.1 c.joined.ensures)

pub returns-then-marked-eq0 : goal.returns-then-marked-eq0
returns-then-marked-eq0 c = took-nine (record { is = c.low_first-x.ensures; room = omega arith; small = λ i. omega (arith, c.type_inv.s i) }) c.ends-marked.ensures (omega arith) c.if-marked-eq0.true c.wide-ninth.result c.wide-ninth.ensures.0 c.wide-ninth.ensures.1 c.joined.ensures

pub overflow_cast-next : goal.overflow_cast-next
overflow_cast-next c = omega (arith, trailing_le 64 c.ends-marked.result)

pub overflow_add-next-2 : goal.overflow_add-next-2
overflow_add-next-2 c = omega (arith, trailing_le 64 c.ends-marked.result)

pub overflow_add-next-3 : goal.overflow_add-next-3
overflow_add-next-3 c = omega (arith, trailing_le 64 c.ends-marked.result)

pub up_to-requires : goal.up_to-requires
up_to-requires c = in-word c.low_first-x.result c.ends-marked.ensures c.if-marked-eq0.false

pub returns : goal.returns
returns c = took-bit (record { is = c.low_first-x.ensures; room = omega arith; small = λ i. omega (arith, c.type_inv.s i) }) c.ends-marked.ensures c.if-marked-eq0.false refl c.up_to.ensures c.joined-2.ensures
