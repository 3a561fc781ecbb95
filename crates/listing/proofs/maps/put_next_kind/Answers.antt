use Rattle.std.proofs.Common.{◌∷◌}
use Rattle.paper.specs.Listing.{comma, decimal}
use Rattle.show.specs.Lines.{number-none, number-shows}
use Rattle.listing.proofs.maps.put_next_kind.Goals as goal

pub returns-in_default : goal.returns-in_default
returns-in_default c = number-none c.v64-a.ensures (λ k. comma ∷ decimal k) c.in_default.is

pub returns : goal.returns
returns c = number-shows c.v64-a.ensures (λ k. comma ∷ decimal k) c.in-Ok.is c.put_map_kind-end.ensures
