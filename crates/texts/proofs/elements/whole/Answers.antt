use Rattle.std.proofs.Common.{arith}
use Rattle.texts.specs.Signs.{sign-end, signed-refused, signed-far, signed-nought, signed-taken}
use Rattle.texts.proofs.elements.whole.Goals as goal

pub overflow_add-digits : goal.overflow_add-digits
overflow_add-digits c = let h = sign-end _ _ _ 18446744073709551615 c.sign-s.ensures (omega arith) (omega arith) in omega arith

pub returns-in_err-n : goal.returns-in_err-n
returns-in_err-n c = rw c.from_residual.ensures (λ w two. signed-refused w c.requires two _ _ _ c.sign-s.ensures (rw c.in_err-n.was at c.natural.ensures))

pub returns-then-half-s : goal.returns-then-half-s
returns-then-half-s c = λ w two. signed-far w c.requires two _ _ _ _ _ c.sign-s.ensures (rw c.in_ok-n.was at c.natural.ensures) (omega arith)

pub returns-then-n-s : goal.returns-then-n-s
returns-then-n-s c = λ w two. signed-nought w c.requires two _ _ _ _ _ c.sign-s.ensures (rw c.in_ok-n.was at c.natural.ensures) (omega arith)

pub returns : goal.returns
returns c = λ w two. rw c.signed_bits.ensures (signed-taken w c.requires two _ _ _ _ _ c.sign-s.ensures (rw c.in_ok-n.was at c.natural.ensures) (omega arith) (omega arith))
