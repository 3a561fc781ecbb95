use Rattle.paper.specs.Listing.{kind_word}
use Rattle.lines.specs.Lines.{joined-on, joined_end}
use Rattle.lines.proofs.put_many.Goals as goal

pub returns : goal.returns
unfolding kind_word
returns c = joined-on _ _ _ c.put_ended-second.ensures (joined_end _ c.put_decimal.ensures)
