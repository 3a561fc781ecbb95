use Rattle.std.proofs.Common.{arith}
use Rattle.texts.specs.Elements.{flag-bit, flag-none}
use Rattle.texts.proofs.elements.flag.Goals as goal

pub returns-then-b-lt48 : goal.returns-then-b-lt48
returns-then-b-lt48 c = flag-none c.peek-b.ensures (λ e. omega arith) (λ e. omega arith)

pub returns-then-b-gt49 : goal.returns-then-b-gt49
returns-then-b-gt49 c = flag-none c.peek-b.ensures (λ e. omega arith) (λ e. omega arith)

pub overflow_add-next : goal.overflow_add-next
overflow_add-next c = let h = c.peek-b.ensures.inside (omega arith) in omega arith

pub returns : goal.returns
returns c = flag-bit c.peek-b.ensures (omega arith) (omega arith)
