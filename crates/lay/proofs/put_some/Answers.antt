use Rattle.std.proofs.Common.{arith}
use Rattle.lay.specs.Laid.{most, leads-start, leads-on, drop_more}
use Rattle.lay.proofs.put_some.Goals as goal

pub loop-b-init : goal.loop-b-init
unfolding most
loop-b-init c = leads-start (omega arith) (omega arith)

pub loop-b-preserved : goal.loop-b-preserved
loop-b-preserved c = leads-on c.loop-b.invariant (drop_more c.args.s.now c.loop-b.b-index (omega arith)) c.put-p.ensures
