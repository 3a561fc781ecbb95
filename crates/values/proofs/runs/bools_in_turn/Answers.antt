use Rattle.std.proofs.Common.{arith, refl}
use Rattle.numbers.specs.Cursors.{handed}
use Rattle.values.specs.Turns.{turning-next, turning-no, turning-done}
use Rattle.values.specs.Held.{bool-cut, bool_false, bool-true, bool-wrong}
use Rattle.values.proofs.runs.bools_in_turn.Goals as goal
use Rattle.values.proofs.runs.bools_in_turn.Goals.{then-b-ne0+else-b-ne255, else-b-ne0}

pub returns-in_err-b : goal.returns-in_err-b
returns-in_err-b c = rw (handed c.from_residual.ensures.1) (turning-no c.loop.invariant c.loop-test.true (bool-cut (c.be.ensures.reads (omega arith)) c.in_err-b.was) refl)

pub returns-then-b-ne255 : goal.returns-then-b-ne255
returns-then-b-ne255 c = turning-no c.loop.invariant c.loop-test.true (bool-wrong (c.be.ensures.reads (omega arith)) c.in_ok-b.was c.if-b-ne0.true c.if-b-ne255.true) refl

pub loop-preserved : goal.loop-preserved
loop-preserved c = turning-next c.loop.invariant c.loop-test.true (elim c.if-b-ne0.branch [
  | then-b-ne0+else-b-ne255 w ↦ bool-true (c.be.ensures.reads (omega arith)) c.in_ok-b.was w.if-b-ne255.false
  | else-b-ne0 w ↦ bool_false (c.be.ensures.reads (omega arith)) c.in_ok-b.was w.if-b-ne0.false
]) refl

pub returns : goal.returns
returns c = turning-done c.loop.invariant 0 c.loop-test.false
