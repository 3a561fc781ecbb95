use Rattle.numbers.specs.Cursors.{handed}
use Rattle.values.specs.Turns.{turning-past, turning-stop, turning-done}
use Rattle.values.proofs.runs.v64s_in_turn.Goals as goal

pub returns-in_err-here : goal.returns-in_err-here
returns-in_err-here c = rw (handed c.from_residual.ensures.1) (turning-stop c.loop.invariant c.loop-test.true c.past_v64.ensures c.in_err-here.was)

pub loop-preserved : goal.loop-preserved
loop-preserved c = turning-past c.loop.invariant c.loop-test.true c.past_v64.ensures c.in_ok-here.was

pub returns : goal.returns
returns c = turning-done c.loop.invariant 0 c.loop-test.false
