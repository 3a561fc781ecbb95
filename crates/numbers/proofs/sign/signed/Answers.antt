use Rattle.std.proofs.Common.{arith, ◌∙◌, to_z-of_z, w64}
use Rattle.numbers.proofs.WriteLaws.{in_width}
use Rattle.numbers.proofs.sign.signed.Goals as goal

pub from_bits-requires : goal.from_bits-requires
from_bits-requires g c = let H = c.half_of-half.ensures in (H.most, omega (arith, in_width g.row.WIDTH _ c.requires.1 c.requires.2 (omega arith), H.two))

pub returns-then-this-eq8 : goal.returns-then-this-eq8
returns-then-this-eq8 g c = to_z-of_z {w = w64} (record { sfits = c.from_bits.type_inv }) ∙ c.from_bits.ensures _ c.half_of-half.ensures.two

pub from_low_bits-requires : goal.from_low_bits-requires
from_low_bits-requires g c = let H = c.half_of-half.ensures in (H.some, H.low (omega arith), omega (arith, c.requires.2 (omega arith), H.two))

pub returns : goal.returns
returns g c = to_z-of_z {w = w64} (record { sfits = c.from_low_bits.type_inv }) ∙ c.from_low_bits.ensures _ c.half_of-half.ensures.two
