use Rattle.std.proofs.Common.{to_z-of_z, ap, ◌∙◌}
use Rattle.lay.specs.Laid.{laid_as}
use Rattle.paper.specs.Numbers.{signed, unsigned}
use Rattle.paper.specs.Listing.{decimalℤ}
use Rattle.words.specs.Signs.{bits_back}
use Rattle.words.proofs.write.put_signed.Goals as goal

pub returns : goal.returns
returns c = laid_as c.put_integer.ensures (ap decimalℤ (ap (signed 8) (c.bits_of.ensures ∙ ap (unsigned 8) (to_z-of_z c.ranges.z)) ∙ bits_back _ c.ranges.z))
