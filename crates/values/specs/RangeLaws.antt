-- A search through the ranges. Assumes nothing.
use Rattle.std.specs.Prelude.{◌≡◌, ℕ, ◌+◌, ◌<◌, ◌≤◌, Bool, true, false, ◌||◌, List, length, ◌==◌, ◌≢◌, nat_le, slice_index}
use Rattle.std.proofs.Math.Path.{refl}
use Rattle.std.proofs.Common.{arith, lt_of_not-le, le-leb, eq-eqb, ne_eqb}
use Rattle.std.proofs.Math.Decide.{dec_le}
use Rattle.std.proofs.lemmas.Bool.{lt-leb}
use Rattle.values.specs.Items.{in_ranges, in_range, range-found, range_none, some_object}

-- i is the place of a range in which object n lies, or none lies so far and there is none
pub record Placed (first last : List ℕ) (n i : ℕ) : Type 0 where
  pub found : i < length first → in_ranges first last n ≡ true
  pub missing : length first ≤ i → in_ranges first last n ≡ false

pub placed_at : (first last : List ℕ) (n i : ℕ) → length first ≡ length last → i < length first → in_range first last i n ≡ true → Placed first last n i
placed_at first last n i e h t = record { found = λ lt. range-found first last i n e h t; missing = λ le. absurd (omega arith) }

-- code tests one end after the other
module _ (first last : List ℕ) (i n : ℕ) {before : ℕ} (is : before ≡ slice_index first i) where
  pub before-range : n ≤ before → false ≡ in_range first last i n
  unfolding in_range
  before-range h = rw (lt-leb (slice_index first i + 1) n (omega arith))

  pub behind-first : {end : ℕ} → end ≡ slice_index last i → before < n → nat_le n end ≡ in_range first last i n
  unfolding in_range
  behind-first e h = rw (le-leb (slice_index first i + 1) n (omega arith), e)

-- a search that met none before i
pub record Searched (first last : List ℕ) (n i : ℕ) : Type 0 where
  pub none : (j : ℕ) → j < i → in_range first last j n ≡ false
  pub within : i ≤ length first

pub searched-all : {first last : List ℕ} {n i : ℕ} → Searched first last n i → length first ≤ i → Placed first last n i
searched-all {first} {last} {n} {i} S h =
    record { found = λ lt. absurd (omega arith); missing = λ le. range_none first last n (λ j lt. S.none j (omega arith)) }

pub searched-on : {first last : List ℕ} {n i : ℕ} → Searched first last n i → i < length first → in_range first last i n ≡ false → Searched first last n (i + 1)
searched-on {first} {last} {n} {i} S h t =
    record {
      none = λ j lt. elim (dec_le i j) [
        | yes d ↦ (let same : j ≡ i = omega arith in rw same t)
        | no d ↦ S.none j (lt_of_not-le d)
      ];
      within = omega arith;
    }

pub searched-start : (first last : List ℕ) (n : ℕ) → Searched first last n 0
searched-start first last n = record { none = λ j lt. absurd (omega arith); within = omega arith }

-- ── an object's number, or 0 ──

module _ (first last : List ℕ) (n : ℕ) where
  pub object-nought : n ≡ 0 → some_object first last n ≡ true
  unfolding some_object
  object-nought h = rw (eq-eqb n 0 h)

  pub object-found : {i : ℕ} → Placed first last n i → i < length first → some_object first last n ≡ true
  unfolding some_object
  object-found P h = rw (P.found h) (or-true (n == 0))
    where
      or-true : (x : Bool) → (x || true) ≡ true
      or-true true = refl
      or-true false = refl

  pub object-missing : (n ≢ 0) → {i : ℕ} → Placed first last n i → length first ≤ i → some_object first last n ≡ false
  unfolding some_object
  object-missing z P h = rw (ne_eqb n 0 z, P.missing h)
