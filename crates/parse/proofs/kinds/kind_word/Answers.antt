use Rattle.std.proofs.Common.{arith}
use Rattle.parse.specs.KindLaws.{kind-none, kind-is-constant, kind-is-low, kind-is-array, kind-is-many, kind-is-map, kind-is-type, kind-is-gap}
use Rattle.parse.proofs.kinds.kind_word.Goals as goal

pub returns-in_err-k : goal.returns-in_err-k
returns-in_err-k c = rw c.from_residual.ensures (kind-none c.in_err-k.ensures)

pub many-requires : goal.many-requires
many-requires c = (omega arith, omega arith)

pub returns-in-15 : goal.returns-in-15
returns-in-15 c = kind-is-array c.in_ok-k.ensures c.in-15.is c.array.ensures

pub returns-in-20 : goal.returns-in-20
returns-in-20 c = kind-is-map c.in_ok-k.ensures c.in-20.is c.mapping.ensures

pub returns-in-0-to-4 : goal.returns-in-0-to-4
returns-in-0-to-4 c = kind-is-constant c.in_ok-k.ensures (omega arith) c.constant.ensures

pub returns-in-5-to-14 : goal.returns-in-5-to-14
returns-in-5-to-14 c = kind-is-low c.in_ok-k.ensures (omega arith) (omega arith) (omega arith)

pub returns-in-17-to-19 : goal.returns-in-17-to-19
returns-in-17-to-19 c = kind-is-many c.in_ok-k.ensures (omega arith) (omega arith) c.many.ensures

pub returns-in-32-to-18446744073709551615 : goal.returns-in-32-to-18446744073709551615
returns-in-32-to-18446744073709551615 c = kind-is-type c.in_ok-k.ensures (omega arith) (omega arith)

pub returns-in-16 : goal.returns-in-16
returns-in-16 c = kind-is-gap c.in_ok-k.ensures (omega arith) (omega arith) (omega arith) (λ q. omega arith)

pub returns-in-16-2 : goal.returns-in-16-2
returns-in-16-2 c = kind-is-gap c.in_ok-k.ensures (omega arith) (omega arith) (omega arith) (λ q. omega arith)
