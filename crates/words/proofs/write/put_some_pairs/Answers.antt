use Rattle.std.proofs.Common.{arith}
use Rattle.lay.specs.Laid.{most, leads-start, leads-on, leads-end}
use Rattle.words.specs.Hexes.{hex-more, hex-none}
use Rattle.words.proofs.write.put_some_pairs.Goals as goal

pub loop-b-init : goal.loop-b-init
unfolding most
loop-b-init c = leads-start (omega arith) (omega arith)

pub loop-b-preserved : goal.loop-b-preserved
loop-b-preserved c = leads-on c.loop-b.invariant (hex-more c.args.s.now c.loop-b.b-index (omega arith)) c.put_pair-p.ensures

pub returns : goal.returns
returns c = leads-end c.loop-b.invariant (hex-none c.args.s.now c.loop-b.b-index (omega arith))
