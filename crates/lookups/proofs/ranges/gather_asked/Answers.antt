-- `lookups::ranges::gather_asked` meets its contract. Assumes nothing.
use Rattle.std.proofs.Common.{sym, ◌∙◌}
use Rattle.lookups.specs.Group.{are-asked}
use Rattle.lookups.proofs.ranges.gather_asked.Goals as goal

pub returns : goal.returns
returns c = are-asked (sym c.asked.ensures ∙ c.if-not-asked.false) c.gather.ensures
