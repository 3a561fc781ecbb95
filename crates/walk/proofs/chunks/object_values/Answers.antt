use Rattle.std.proofs.Common.{arith, ◌≡◌, ◌+◌, ◌-◌}
use Rattle.numbers.specs.Cursors.{handed}
use Rattle.values.specs.Pass.{running-next, running-no, running-done}
use Rattle.walk.proofs.chunks.object_values.Goals as goal

pub returns-in_err-next : goal.returns-in_err-next
returns-in_err-next c = rw (handed c.from_residual.ensures.1) (running-no c.loop.invariant (omega arith) c.object_value.ensures c.in_err-next.was)

pub loop-preserved : goal.loop-preserved
loop-preserved c = let less : c.args.n - c.loop.counter - 1 ≡ c.args.n - (c.loop.counter + 1) = omega arith in rw (← less) (running-next c.loop.invariant (omega arith) c.object_value.ensures c.in_ok-next.was)

pub returns : goal.returns
returns c = running-done c.loop.invariant 0 (omega arith)
