use Rattle.std.proofs.Common.{arith}
use Rattle.lay.specs.Laid.{most}
use Rattle.numbers.proofs.WriteLaws.{in_width, lowering-start, lowering-more, lowering-end}
use Rattle.numbers.proofs.write.put_be.Goals as goal

pub loop-left-init : goal.loop-left-init
unfolding most
loop-left-init g c = lowering-start _ _ _ _ (omega arith) (omega arith) (in_width g.row.WIDTH _ c.requires.0 c.requires.1 (omega arith))

pub loop-left-preserved : goal.loop-left-preserved
loop-left-preserved g c = lowering-more c.loop-left.invariant (omega arith) c.put-p.ensures

pub returns : goal.returns
returns g c = lowering-end c.loop-left.invariant (omega arith)
