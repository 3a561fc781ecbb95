use Rattle.std.proofs.Common.{ap}
use Rattle.paper.specs.Listing.{string_line}
use Rattle.lay.specs.Laid.{laid_as}
use Rattle.listing.specs.Fronts.{part-is, part_none}
use Rattle.listing.proofs.fronts.put_part.Goals as goal

pub returns-then-end-start : goal.returns-then-end-start
returns-then-end-start c = laid_as c.put_string.ensures (ap string_line (part_none _ _ _ c.if-end-start.true c.requires))

pub returns : goal.returns
returns c = laid_as c.put_string-2.ensures (ap string_line (part-is _ _ _ c.if-end-start.false c.requires))
