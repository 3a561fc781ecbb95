use Rattle.lay.specs.Laid.{laid_then}
use Rattle.paper.specs.Listing.{ascii, string_line}
use Rattle.lines.specs.Lines.{line_on, line-end}
use Rattle.lines.proofs.put_string.Goals as goal

pub returns : goal.returns
unfolding ascii string_line
returns c = line_on _ _ _ c.put_bytes-second.ensures (line-end _ (laid_then c.put_hex_bytes-end.ensures c.put.ensures))
