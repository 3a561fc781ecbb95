-- What the tallies say of the log of ranges, and of the fields. Assumes nothing.
use Rattle.std.specs.Prelude.{◌≡◌, ℕ, ◌-◌, ◌<◌, ◌≤◌, Bool, true, false, not, ◌&&◌, ◌||◌, List, length, nat_le, nat_lt, slice_index_or}
use Rattle.paper.specs.Lists.{any, all, total, given?}
use Rattle.paper.specs.Ledger.{Typ, Range, Field, no_field, owns?, type_in, of?, before?, base?, holds?, size}
use Rattle.paper.specs.Rules.{clear?}

-- a range of one of the first n types
unfoldable pub declared? : ℕ → Range → Bool
declared? n r = nat_lt r.type n

-- a range that is of another type, or of a block before c
unfoldable pub up_to? : ℕ → ℕ → Range → Bool
up_to? t c r = not (of? t r) || nat_lt r.block c

-- `tally t k` is tally k of type t:
--   1  its objects
--   2  no block from this one on has a range of it
--   3  its objects of the blocks before the one that tally 2 is behind
--   4  the place of its last range: of this nothing is known, for it is looked at before it is trusted
--   5  no block from this one on has a range of a type right below it
--   6  in the block that tally 5 is behind, the ranges of types right below it end here or before
pub record Told (tally : ℕ → ℕ → ℕ) (ts : List Typ) (log : List Range) : Type 0 where
  pub known : all (declared? (length ts)) log ≡ true
  pub sums : (t : ℕ) → t < 32 → tally t 1 ≡ total (of? t) size log
  pub latest : (t : ℕ) → t < 32 → all (up_to? t (tally t 2)) log ≡ true
  pub before : (t : ℕ) → t < 32 → tally t 3 ≡ total (before? (tally t 2 - 1) t) size log
  pub bases : tally 32 0 ≡ total (base? ts) size log
  pub beyond : (u : ℕ) → u < 32 → (b : ℕ) → tally u 5 ≤ b → all (clear? b ts u 0) log ≡ true
  pub ended : (u : ℕ) → u < 32 → all (clear? (tally u 5 - 1) ts u (tally u 6)) log ≡ true
  -- the objects of a base type are those from 1 on
  pub lying : (t : ℕ) → t < 32 → given? (type_in ts t).super ≡ false → (n : ℕ) → any (holds? t n) log ≡ (nat_le 1 n && nat_le n (tally t 1))

-- further tallies of type t, of its fields:
--   0  no field before this place is its own
--   7  no field from this place on is its own
pub record Owned (tally : ℕ → ℕ → ℕ) (flds : List Field) : Type 0 where
  pub begins : (t : ℕ) → t < 32 → tally t 0 ≤ tally t 7
  pub ends : (t : ℕ) → t < 32 → tally t 7 ≤ length flds
  pub between : (t : ℕ) → t < 32 → (i : ℕ) → i < length flds → owns? t (slice_index_or flds i no_field) ≡ true → (tally t 0 ≤ i) × (i < tally t 7)
