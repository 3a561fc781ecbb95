use Rattle.paper.specs.Reader.{when◌then◌else◌}
use Rattle.paper.specs.Listing.{glyph, shown, decimal, kind_word}
use Rattle.lines.specs.Lines.{joined-on, joined_end}
use Rattle.lines.proofs.put_array.Goals as goal

pub returns : goal.returns
unfolding glyph shown decimal kind_word when◌then◌else◌
returns c = joined-on _ _ _ c.put_bytes-second.ensures (joined-on _ _ _ c.put_ended-third.ensures (joined_end _ c.put_decimal.ensures))
