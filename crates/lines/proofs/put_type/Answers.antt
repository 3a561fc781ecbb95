use Rattle.paper.specs.Listing.{ascii, type_line}
use Rattle.lines.specs.Lines.{line_on, line-end}
use Rattle.lines.proofs.put_type.Goals as goal

pub returns : goal.returns
unfolding ascii type_line
returns c = line_on _ _ _ c.put_bytes-second.ensures (line_on _ _ _ c.put_ended-third.ensures (line_on _ _ _ c.put_or_dash-fourth.ensures (line_on _ _ _ c.put_or_dash-fifth.ensures (line_on _ _ _ c.put_ended-sixth.ensures (line-end _ c.put_ended.ensures)))))
