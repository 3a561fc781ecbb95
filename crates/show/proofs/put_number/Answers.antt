use Rattle.std.proofs.Common.{◌∷◌}
use Rattle.lay.specs.Laid.{laid_then}
use Rattle.paper.specs.Listing.{tab, decimal}
use Rattle.show.specs.Lines.{number-shows}
use Rattle.show.proofs.put_number.Goals as goal

pub returns : goal.returns
returns c = number-shows c.v64.ensures (λ n. tab ∷ decimal n) c.in-Ok.is (laid_then c.put-word.ensures c.put_decimal-end.ensures)
