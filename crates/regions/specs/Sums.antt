-- The size of a region: the sum of the sizes of its chunks, which stands still at the largest number. Assumes nothing.
use Rattle.std.specs.Prelude.{◌≡◌, List, [], ◌∷◌, map, length}
use Rattle.std.proofs.Math.Path.{refl, ap}
use Rattle.std.proofs.Common.{◌∙◌, arith, length-append, drop_of_length-le}
use Prim.Native.Nat.{ℕ, ◌+◌, ◌≤◌, ◌<◌, min}
use Rattle.std.proofs.Math.Numerals.{add-one}
use Rattle.std.proofs.Math.ListN.{get_or, drop}
use Rattle.std.proofs.Math.Seq.{drop-cons}
use Rattle.paper.specs.Lists.{flat}
use Rattle.paper.specs.Ledger.{Due}
use Rattle.paper.specs.Pieces.{zip}
use Rattle.lay.specs.Laid.{most}
use Rattle.table.specs.Answers.{due_in, no_due}
use Rattle.table.specs.declared.rows.DueRow.{DueRow}
use Rattle.walk.specs.Region.{sizes}
use Rattle.regions.specs.Sizes.{counted}

-- the sum so far and what is left of the list give the whole
pub record Summing (ds : List (Due × ℕ)) (i sum : ℕ) : Type 0 where
  pub whole : min (sum + sizes (drop i ds)) most ≡ min (sizes ds) most
  pub fits : sum ≤ most

pub summing_start : (ds : List (Due × ℕ)) → Summing ds 0 0
summing_start ds = record { whole = ap (λ (n : ℕ). min n most) (omega arith); fits = omega arith }

module _ {ds : List (Due × ℕ)} {i sum : ℕ} (G : Summing ds i sum) where
  pub summing-done : length ds ≤ i → sum ≡ min (sizes ds) most
  unfolding sizes
  summing-done le =
      let whole : min (sum + 0) most ≡ min (sizes ds) most = rw (drop_of_length-le ds le) at G.whole in
      omega (arith, whole, G.fits)

  pub summing_on : i < length ds → (d : DueRow) → due_in d ≡ get_or ds i no_due → {r : ℕ} → r ≡ min (sum + d.size) most → Summing ds (i + 1) r
  unfolding sizes
  summing_on lt d is {r} e =
      let size : d.size ≡ (get_or ds i no_due).1 = ap (λ (x : Due × ℕ). x.1) is in
      let next : drop i ds ≡ get_or ds i no_due ∷ drop (i + 1) ds = drop-cons ds i no_due lt ∙ rw add-one refl in
      let whole : min (sum + ((get_or ds i no_due).1 + sizes (drop (i + 1) ds))) most ≡ min (sizes ds) most = rw next at G.whole in
      record { whole = omega (arith, whole, e, size); fits = omega (arith, e) }

-- where the sizes are those of pieces, the sum is the length of all
pub pieces-length : (ds : List Due) (bs : List (List ℕ)) → length bs ≡ length ds → min (sizes (zip ds (map counted bs))) most ≡ min (length (flat (λ b. b) bs)) most
unfolding sizes zip flat
pieces-length [] [] h = refl
pieces-length [] (b ∷ bs) h = absurd (omega arith)
pieces-length (d ∷ ds) [] h = absurd (omega arith)
pieces-length (d ∷ ds) (b ∷ bs) h = omega (arith, pieces-length ds bs (omega arith), length-append b (flat (λ x. x) bs))
