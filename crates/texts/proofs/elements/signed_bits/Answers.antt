use Rattle.texts.specs.Signs.{bits-plus, bits-minus}
use Rattle.texts.proofs.elements.signed_bits.Goals as goal

pub returns-then-s-eq0 : goal.returns-then-s-eq0
returns-then-s-eq0 c = bits-plus _ _ _ c.if-s-eq0.true

pub returns-else-s-eq0 : goal.returns-else-s-eq0
returns-else-s-eq0 c = bits-minus _ _ _ c.if-s-eq0.false
