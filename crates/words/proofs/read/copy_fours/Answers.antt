use Rattle.std.proofs.Common.{arith}
use Rattle.words.specs.Pairs.{foured-none, foured-on, four_is}
use Rattle.words.proofs.read.copy_fours.Goals as goal

pub loop-i-init : goal.loop-i-init
loop-i-init c = foured-none _ _ _ c.requires.1

pub loop-i-preserved : goal.loop-i-preserved
loop-i-preserved c = foured-on c.loop-i.invariant (omega arith) (four_is _ _ _ (λ k. omega (arith, c.type_inv.t k)) c.from_le_bytes.ensures)
