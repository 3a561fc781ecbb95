use Rattle.numbers.specs.Cursors.{handed}
use Rattle.values.specs.Turns.{turning-next, turning-no, turning-done}
use Rattle.values.proofs.annotations.annotations.Goals as goal

pub returns-in_err-next : goal.returns-in_err-next
returns-in_err-next c = rw (handed c.from_residual.ensures.1) (turning-no c.loop.invariant c.loop-test.true c.annotation.ensures c.in_err-next.was)

pub loop-preserved : goal.loop-preserved
loop-preserved c = turning-next c.loop.invariant c.loop-test.true c.annotation.ensures c.in_ok-next.was

pub returns : goal.returns
returns c = turning-done c.loop.invariant 0 c.loop-test.false
