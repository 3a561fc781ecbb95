use Rattle.std.proofs.Common.{◌∷◌}
use Rattle.lay.specs.Laid.{laid_then}
use Rattle.paper.specs.Numbers.{signed}
use Rattle.paper.specs.Listing.{tab, decimalℤ}
use Rattle.show.specs.Lines.{number-none, number-shows, v64-shows}
use Rattle.show.proofs.put_v64.Goals as goal

pub returns-in_default : goal.returns-in_default
returns-in_default c = v64-shows (λ w. tab ∷ w) (number-none c.v64.ensures (λ n. tab ∷ decimalℤ (signed 8 n)) c.in_default.is)

pub returns : goal.returns
returns c = v64-shows (λ w. tab ∷ w) (number-shows c.v64.ensures (λ n. tab ∷ decimalℤ (signed 8 n)) c.in-Ok.is (laid_then c.put-word.ensures c.put_integer-end.ensures))
