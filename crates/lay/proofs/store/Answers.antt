use Rattle.std.proofs.Common.{arith}
use Rattle.lay.specs.Laid.{storing-start, storing-on, storing-done}
use Rattle.lay.proofs.store.Goals as goal

pub loop-i-init : goal.loop-i-init
loop-i-init c = storing-start _ _ _

pub loop-i-preserved : goal.loop-i-preserved
loop-i-preserved c = storing-on c.loop-i.invariant (omega arith)

pub returns : goal.returns
returns c = storing-done c.loop-i.invariant (omega arith)
