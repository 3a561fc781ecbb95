use Rattle.std.proofs.Common.{arith}
use Rattle.words.specs.Backwards.{hexed-start, hexed-on, hexed-done}
use Rattle.words.proofs.write.store_hex.Goals as goal

pub loop-k-init : goal.loop-k-init
loop-k-init c = hexed-start _ _ _ _

pub loop-k-preserved : goal.loop-k-preserved
loop-k-preserved c = rw c.glyph_of.ensures (hexed-on c.loop-k.invariant (omega arith))

pub returns : goal.returns
returns c = hexed-done c.loop-k.invariant (omega arith)
