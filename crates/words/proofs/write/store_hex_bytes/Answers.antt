use Rattle.std.proofs.Common.{arith, length-set}
use Rattle.words.specs.Stored.{pairing-start, pairing-on, pairing-done}
use Rattle.words.proofs.write.store_hex_bytes.Goals as goal

pub loop-i-init : goal.loop-i-init
loop-i-init c = pairing-start _ _ _

pub bounds-out-at-in-loop-i : goal.bounds-out-at-in-loop-i
bounds-out-at-in-loop-i c = rw length-set (omega (arith, c.loop-i.invariant.long, c.loop-i.invariant.within, c.requires))

pub loop-i-preserved : goal.loop-i-preserved
loop-i-preserved c = rw (c.glyph_of.ensures, c.glyph_of-in-loop-i.ensures, c.from-x.ensures) (pairing-on c.loop-i.invariant (omega arith) (omega (arith, c.type_inv.s c.loop-i.i)))

pub returns : goal.returns
returns c = pairing-done c.loop-i.invariant (omega arith)
