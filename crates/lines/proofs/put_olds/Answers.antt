use Rattle.std.proofs.Common.{arith}
use Rattle.std.proofs.Math.Nat.{sub-zero}
use Rattle.lay.specs.Laid.{most, leads-start, leads-on, leads-end}
use Rattle.lines.specs.Lines.{olds-more, olds-none}
use Rattle.lines.proofs.put_olds.Goals as goal

pub loop-init : goal.loop-init
unfolding most
loop-init c = rw sub-zero (leads-start (omega arith) (omega arith))

pub loop-preserved : goal.loop-preserved
loop-preserved c = leads-on c.loop.invariant (olds-more (omega arith)) c.put_old-p.ensures

pub returns : goal.returns
returns c = leads-end c.loop.invariant (olds-none (omega arith))
