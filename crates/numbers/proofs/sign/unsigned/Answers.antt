use Rattle.std.proofs.Common.{arith, to_z-of_z, lt_of_not-le}
use Rattle.std.proofs.Math.Decide.{dec_le}
use Rattle.numbers.specs.Signs.{in-half}
use Rattle.numbers.proofs.SignLaws.{widest}
use Rattle.numbers.proofs.sign.unsigned.Goals as goal

pub to_bits-requires : goal.to_bits-requires
to_bits-requires g c =
    let H = c.half_of.ensures in (
      H.most,
      elim (dec_le 8 g.row.WIDTH) [
        | yes h ↦ rw (to_z-of_z c.ranges.z) (omega (arith, widest g.row.WIDTH _ h c.requires.1 H.two, c.ranges.z.sfits))
        | no h ↦ rw (to_z-of_z c.ranges.z) (omega (arith, in-half g.row.WIDTH _ (c.requires.2 (lt_of_not-le h)), H.two))
      ],
    )

pub returns : goal.returns
returns g c = rw (to_z-of_z c.ranges.z) at (c.to_bits.ensures _ c.half_of.ensures.two)
