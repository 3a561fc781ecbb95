use Rattle.std.proofs.Common.{arith}
use Rattle.paper.specs.Scan.{negative, positive}
use Rattle.words.specs.ReadSigns.{minus, plus, negative-nought, negative-large, negative-bits, positive-large, positive-bits}
use Rattle.words.proofs.read.Place.integer.Goals as goal

pub overflow_add-next : goal.overflow_add-next
overflow_add-next c = let h = c.peek.ensures.inside (omega arith) in omega arith

pub returns-in_err-n : goal.returns-in_err-n
unfolding negative
returns-in_err-n c = rw (minus c.peek.ensures c.if-peek-eq-DASH.true, ← c.natural.ensures, c.in_err-n.was, c.from_residual.ensures)

pub returns-then-n-eq0 : goal.returns-then-n-eq0
returns-then-n-eq0 c = rw (minus c.peek.ensures c.if-peek-eq-DASH.true, ← c.natural.ensures, c.in_ok-n.was) (negative-nought _ _ (omega arith))

pub returns-then-n-gt-HALF : goal.returns-then-n-gt-HALF
returns-then-n-gt-HALF c = rw (minus c.peek.ensures c.if-peek-eq-DASH.true, ← c.natural.ensures, c.in_ok-n.was) (negative-large _ _ (omega arith))

pub returns-then-peek-eq-DASH : goal.returns-then-peek-eq-DASH
returns-then-peek-eq-DASH c = rw (minus c.peek.ensures c.if-peek-eq-DASH.true, ← c.natural.ensures, c.in_ok-n.was) (negative-bits _ _ (omega arith) (omega arith))

pub returns-in_err-n-2 : goal.returns-in_err-n-2
unfolding positive
returns-in_err-n-2 c = rw (plus c.peek.ensures c.if-peek-eq-DASH.false, ← c.natural-2.ensures, c.in_err-n-2.was, c.from_residual-in_err-n-2.ensures)

pub returns-then-n-ge-HALF : goal.returns-then-n-ge-HALF
returns-then-n-ge-HALF c = rw (plus c.peek.ensures c.if-peek-eq-DASH.false, ← c.natural-2.ensures, c.in_ok-n-2.was) (positive-large _ _ (omega arith))

pub returns : goal.returns
returns c = rw (plus c.peek.ensures c.if-peek-eq-DASH.false, ← c.natural-2.ensures, c.in_ok-n-2.was) (positive-bits _ _ (omega arith))
