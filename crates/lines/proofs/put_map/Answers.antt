use Rattle.lay.specs.Laid.{laid_then}
use Rattle.paper.specs.Listing.{ascii}
use Rattle.lines.proofs.put_map.Goals as goal

pub returns : goal.returns
unfolding ascii
returns c = laid_then c.put_bytes-second.ensures c.put_decimal.ensures
