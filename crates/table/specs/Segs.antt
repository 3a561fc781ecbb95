-- Rows in a table of numbers: a count at one cell, and that many rows of one width from a base on.
use Rattle.std.specs.Prelude.{◌≡◌, ℕ, zero, suc, ◌+◌, ◌*◌, ◌<◌, ◌≤◌, List, [], ◌∷◌, ◌++◌, length, ◌≢◌, slice_index, slice_set}
use Rattle.std.proofs.lemmas.List.Edits.{sets}

-- f 0, f 1, .. f (n - 1)
unfoldable pub tab : {A : Type 0} → ℕ → (ℕ → A) → List A
tab zero f = []
tab (suc n) f = tab n f ++ (f n ∷ [])

-- the w numbers of l from `at` on
unfoldable pub cells : List ℕ → ℕ → ℕ → List ℕ
cells l at zero = []
cells l at (suc w) = slice_index l at ∷ cells l (suc at) w

-- the rows of a segment: cell c has how many, each is w numbers wide, the first starts at base
unfoldable pub seg : {A : Type 0} → (List ℕ → A) → ℕ → ℕ → ℕ → List ℕ → List A
seg of c base w l = tab (slice_index l c) (λ i. of (cells l (base + w * i) w))

-- what holds of each row
pub record Each (P : List ℕ → Type 0) (c base w : ℕ) (l : List ℕ) : Type 0 where
  pub row : (i : ℕ) → i < slice_index l c → P (cells l (base + w * i) w)

-- the row vs is laid: l' is l with vs past the last row of the segment, and one row more in the count. The tallies, cell 7 and
-- those from 16048 on, may change too
pub record Laid (c base w : ℕ) (vs l l' : List ℕ) : Type 0 where
  pub wide : length vs ≡ w
  pub low : c < 7
  pub head : 16 ≤ base
  pub room : base + w * slice_index l c + w ≤ 16048
  pub full : 16048 ≤ length l
  pub long : length l' ≡ length l
  pub near : (j : ℕ) → j < 16048 → (j ≢ 7) → slice_index l' j ≡ slice_index (slice_set (sets l (base + w * slice_index l c) vs) c (slice_index l c + 1)) j
