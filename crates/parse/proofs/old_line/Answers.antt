use Rattle.paper.specs.Listing.{ascii, line, old_line}
use Rattle.parse.proofs.old_line.Goals as goal

pub returns : goal.returns
unfolding ascii line old_line
returns c = c.literal.ensures
