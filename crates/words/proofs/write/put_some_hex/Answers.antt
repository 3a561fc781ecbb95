use Rattle.std.proofs.Common.{arith}
use Rattle.lay.specs.Laid.{most, leads-start, leads-on, leads-end}
use Rattle.words.specs.Hexes.{hex-next, hex-over}
use Rattle.words.proofs.write.put_some_hex.Goals as goal

pub loop-k-init : goal.loop-k-init
unfolding most
loop-k-init c = leads-start (omega arith) (omega arith)

pub loop-k-preserved : goal.loop-k-preserved
loop-k-preserved c = leads-on c.loop-k.invariant (hex-next c.loop-k.k c.args.x (omega arith)) (rw c.hex_digit.ensures at c.put_glyph-p.ensures)

pub returns : goal.returns
returns c = leads-end c.loop-k.invariant (hex-over c.loop-k.k c.args.x (omega arith))
