use Rattle.paper.specs.Listing.{ascii, old_line}
use Rattle.lines.specs.Lines.{line-end}
use Rattle.lines.proofs.put_old.Goals as goal

pub returns : goal.returns
unfolding ascii old_line
returns c = line-end _ c.put_bytes.ensures
