use Rattle.paper.specs.Listing.{ascii, pair_line}
use Rattle.lines.specs.Lines.{line_on, line-end}
use Rattle.lines.proofs.put_pair.Goals as goal

pub returns : goal.returns
unfolding ascii pair_line
returns c = line_on _ _ _ c.put_bytes-second.ensures (line_on _ _ _ c.put_ended-third.ensures (line-end _ c.put_ended.ensures))
