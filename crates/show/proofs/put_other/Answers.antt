use Rattle.std.proofs.Common.{◌∷◌}
use Rattle.paper.specs.Listing.{tab}
use Rattle.lay.specs.Laid.{laid_then}
use Rattle.show.specs.Single.{single-low}
use Rattle.show.specs.Lines.{fixed-nothing, fixed-below, fixed-shows}
use Rattle.show.proofs.put_other.Goals as goal

pub returns-in_default : goal.returns-in_default
returns-in_default c = fixed-nothing c.requires c.width_of.ensures c.fixed.ensures (λ w. tab ∷ w) c.in_default.is

pub value_of-requires : goal.value_of-requires
value_of-requires c = (single-low c.requires, fixed-below c.requires c.width_of.ensures c.fixed.ensures (λ w. tab ∷ w) c.in-Ok.is)

pub returns : goal.returns
returns c = (fixed-shows c.requires c.width_of.ensures c.fixed.ensures (λ w. tab ∷ w) c.in-Ok.is c.value_of.result c.value_of.ensures (laid_then c.put-word.ensures c.put_element.ensures)).text
