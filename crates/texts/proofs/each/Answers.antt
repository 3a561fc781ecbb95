use Rattle.std.proofs.Common.{◌∙◌, ◌-◌, ◌+◌, arith}
use Rattle.texts.specs.Told.{called, run-stops, run-goes, run-ends}
use Rattle.texts.proofs.each.Goals as goal

pub returns-in_err-here : goal.returns-in_err-here
returns-in_err-here g c = rw c.from_residual.ensures (c.loop.invariant.1 _ _ (run-stops {less = c.args.n - (c.loop.counter + 1)} (omega arith) (called _ _ c.one.ensures c.one.auto.arg3) c.in_err-here.was))

pub loop-preserved : goal.loop-preserved
loop-preserved g c = (c.one.auto.arg3 ∙ c.loop.invariant.0, λ x m on. c.loop.invariant.1 x m (run-goes (omega arith) (called _ _ c.one.ensures c.one.auto.arg3) c.in_ok-here.was on))

pub returns : goal.returns
returns g c = c.loop.invariant.1 _ _ (run-ends (omega arith))
