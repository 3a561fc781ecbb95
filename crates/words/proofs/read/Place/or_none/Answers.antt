use Rattle.std.proofs.Common.{arith, sym}
use Rattle.words.specs.ReadDecimals.{is-dash, no-dash}
use Rattle.words.proofs.read.Place.or_none.Goals as goal

pub overflow_add-next : goal.overflow_add-next
overflow_add-next c = let h = c.peek.ensures.inside (omega arith) in omega arith

pub returns-then-peek-eq-DASH : goal.returns-then-peek-eq-DASH
returns-then-peek-eq-DASH c = sym (is-dash c.peek.ensures (omega arith))

pub returns-in_err-n : goal.returns-in_err-n
returns-in_err-n c = rw (no-dash c.peek.ensures c.if-peek-eq-DASH.false, ← c.natural.ensures, c.in_err-n.was, c.from_residual.ensures)

pub returns : goal.returns
returns c = rw (no-dash c.peek.ensures c.if-peek-eq-DASH.false, ← c.natural.ensures, c.in_ok-n.was)
