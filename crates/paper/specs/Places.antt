-- Where the chunks stand: their places as they are read, not as they would be written. Assumes nothing.
use Rattle.std.specs.Prelude.{Bool, ◌&&◌, List, [], ◌∷◌, ◌++◌, ℕ, zero, suc, ◌+◌, leb, ltb, eqb, length}
use Rattle.paper.specs.Reader.{when◌then◌else◌, Out, got, no}
use Rattle.paper.specs.Bounds.{most_pairs}
use Rattle.paper.specs.Lists.{any, last_or}
use Rattle.paper.specs.Ledger.{Due, State, nothing}
use Rattle.paper.specs.Rules.{with_strings, any_type, dues, closed, after_front}
use Rattle.paper.specs.File.{Front, sized, front}

-- a chunk's field, its first byte, and the end
pub record Spot : Type 0 where
  pub field : ℕ
  pub start : ℕ
  pub end : ℕ

unfoldable pub spots_from : ℕ → List (Due × ℕ) → List Spot
spots_from at [] = []
spots_from at (d ∷ ds) = record { field = d.0.field; start = at; end = at + d.1 } ∷ spots_from (at + d.1) ds

abbrev pub with_front : Out Front → (Front → ℕ → List Spot) → List Spot
with_front (got d m) k = k d m
with_front (no n p) k = []

-- the chunks of a pair whose data region begins at m
unfoldable pub pair_spots : State → Front → ℕ → List Spot
pair_spots s d m = spots_from m (sized 0 (dues (with_strings s d.strings) d.entries) d.ends)

-- the chunks of at most n pairs, from a place on
unfoldable pub spots_of : ℕ → State → List ℕ → ℕ → List Spot
spots_of zero s f at = []
spots_of (suc n) s f at =
    when leb (length f) at then
    [] else
    with_front (front any_type s f at) λ d m. pair_spots s d m ++ spots_of n (closed (after_front s d.strings d.entries)) f (m + last_or 0 d.ends)

unfoldable pub spots : List ℕ → List Spot
spots f = spots_of most_pairs nothing f 0

-- byte k lies in a chunk of field i
unfoldable pub inside? : ℕ → ℕ → List Spot → Bool
inside? i k = any λ (p : Spot). eqb p.field i && leb p.start k && ltb k p.end
