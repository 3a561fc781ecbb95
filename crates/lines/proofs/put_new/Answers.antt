use Rattle.lay.specs.Laid.{laid_then}
use Rattle.paper.specs.Listing.{ascii, new_line}
use Rattle.lines.specs.Lines.{line_on, line-two}
use Rattle.lines.proofs.put_new.Goals as goal

pub returns : goal.returns
unfolding ascii new_line
returns c = line_on _ _ _ c.put_bytes-second.ensures (line-two _ _ (laid_then c.put_kind-end.ensures c.put_name.ensures))
