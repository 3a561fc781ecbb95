use Rattle.paper.specs.Listing.{or_dash}
use Rattle.lines.proofs.put_or_dash.Goals as goal

pub returns-in-None : goal.returns-in-None
unfolding or_dash
returns-in-None c = rw c.in-None.is c.put_bytes.ensures

pub returns-in-Some : goal.returns-in-Some
unfolding or_dash
returns-in-Some c = rw c.in-Some.is c.put_ended.ensures
