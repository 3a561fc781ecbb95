use Rattle.std.proofs.Common.{arith}
use Rattle.parse.specs.KindLaws.{element-low, element-type, element-under, element-gap}
use Rattle.parse.proofs.kinds.is_element.Goals as goal

pub returns-in-5-to-14 : goal.returns-in-5-to-14
returns-in-5-to-14 c = element-low _ (omega arith) (omega arith) (omega arith)

pub returns-in-32-to-18446744073709551615 : goal.returns-in-32-to-18446744073709551615
returns-in-32-to-18446744073709551615 c = element-type _ (omega arith) (omega arith)

pub returns-in-0-to-4 : goal.returns-in-0-to-4
returns-in-0-to-4 c = element-under _ (omega arith) (omega arith)

pub returns-in-0-to-4-2 : goal.returns-in-0-to-4-2
returns-in-0-to-4-2 c = element-gap _ (omega arith) (omega arith) (omega arith)
