use Rattle.std.proofs.Common.{arith}
use Rattle.words.specs.ReadBytes.{found, not_found}
use Rattle.words.proofs.read.Place.byte.Goals as goal

pub overflow_add-next : goal.overflow_add-next
overflow_add-next c = let h = c.peek.ensures.inside (omega arith) in omega arith

pub returns-then-peek-b : goal.returns-then-peek-b
returns-then-peek-b c = found c.peek.ensures _ (omega arith)

pub returns : goal.returns
returns c = not_found c.peek.ensures _ c.if-peek-b.false
