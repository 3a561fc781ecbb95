use Rattle.std.proofs.Common.{ap, to_z-of_z}
use Rattle.lay.specs.Laid.{laid_as}
use Rattle.paper.specs.Listing.{decimalℤ, kind_word}
use Rattle.lines.specs.Lines.{joined-on, joined_end}
use Rattle.lines.proofs.put_constant.Goals as goal

pub returns : goal.returns
unfolding kind_word
returns c = joined-on _ _ _ c.put_ended-second.ensures (joined_end _ (laid_as c.put_signed.ensures (ap decimalℤ (to_z-of_z c.ranges.value))))
