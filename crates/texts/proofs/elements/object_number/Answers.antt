use Rattle.std.proofs.Common.{arith}
use Rattle.values.specs.RangeLaws.{object-nought, object-found, object-missing}
use Rattle.texts.specs.Elements.{link-refused, link-taken, link-none}
use Rattle.texts.proofs.elements.object_number.Goals as goal

pub returns-in_err-n : goal.returns-in_err-n
returns-in_err-n c = rw c.from_residual.ensures (link-refused _ _ _ (rw c.in_err-n.was at c.natural.ensures))

pub returns-then-n-eq0 : goal.returns-then-n-eq0
returns-then-n-eq0 c = link-taken _ _ _ _ _ (rw c.in_ok-n.was at c.natural.ensures) (object-nought _ _ _ c.if-n-eq0.true)

pub returns-then-ranges-range_by : goal.returns-then-ranges-range_by
returns-then-ranges-range_by c = link-none _ _ _ _ _ (rw c.in_ok-n.was at c.natural.ensures) (object-missing _ _ _ c.if-n-eq0.false c.range_by.ensures (omega arith))

pub returns : goal.returns
returns c = link-taken _ _ _ _ _ (rw c.in_ok-n.was at c.natural.ensures) (object-found _ _ _ c.range_by.ensures (omega arith))
