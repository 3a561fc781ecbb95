use Rattle.paper.specs.Listing.{decimal}
use Rattle.show.specs.Single.{line_of}
use Rattle.show.specs.Lines.{number-none, number-shows, link-shows, one_line}
use Rattle.show.proofs.put_link_line.Goals as goal

pub returns-in_default : goal.returns-in_default
returns-in_default c = one_line (link-shows c.requires line_of (number-none c.v64.ensures (λ n. line_of (decimal n)) c.in_default.is))

pub returns : goal.returns
returns c = one_line (link-shows c.requires line_of (number-shows c.v64.ensures (λ n. line_of (decimal n)) c.in-Ok.is c.put_decimal_line-end.ensures))
