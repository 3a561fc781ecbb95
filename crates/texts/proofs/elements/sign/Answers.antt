use Rattle.texts.specs.Signs.{sign-minus, sign-none}
use Rattle.texts.proofs.elements.sign.Goals as goal

pub returns-then-peek-eq-MINUS : goal.returns-then-peek-eq-MINUS
returns-then-peek-eq-MINUS c = sign-minus c.peek.ensures c.if-peek-eq-MINUS.true

pub returns : goal.returns
returns c = sign-none c.peek.ensures c.if-peek-eq-MINUS.false
