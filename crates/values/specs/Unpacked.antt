-- The element kinds of a map, taken from the number in which a table keeps them. Assumes nothing.
use Rattle.std.specs.Prelude.{◌≡◌, ℕ, zero, suc, ◌+◌, ◌-◌, ◌*◌, ◌/◌, ◌%◌, ◌^◌, ◌<◌, ◌≤◌, List, length, slice_set, refl}
use Rattle.std.proofs.Common.{sym, ◌∙◌, arith, pow-suc}
use Rattle.std.proofs.Math.Numerals.{add-one}
use Rattle.std.proofs.Math.Nat.{one-le-pow, pow-le-pow_right}
use Rattle.std.proofs.Math.ListN.{length-set}
use Rattle.std.proofs.Math.Seq.{sets}
use Rattle.paper.specs.Numbers.{put_fixed}
use Rattle.paper.specs.Calls.{over_front}
use Rattle.laws.specs.Codes.{fixed-length}
use Rattle.values.specs.Filling.{sets-front}

-- what the first of i bytes counts, up to so many
pub record Unit (types i unit : ℕ) : Type 0 where
  pub some : 1 ≤ i
  pub within : i ≤ types
  pub is : unit ≡ 256 ^ (i - 1)

pub unit-start : (types : ℕ) → 1 ≤ types → Unit types 1 1
unit-start types h = record { some = omega arith; within = h; is = refl }

module _ {types i unit : ℕ} (U : Unit types i unit) where
  pub unit-fits : types ≤ 8 → i < types → unit * 256 < 2 ^ 64
  unit-fits few h =
      let most = pow-le-pow_right {n = 256} (omega arith) {i = i - 1} {j = 6} (omega arith) in
      omega (arith, U.is)

  pub unit-more : i < types → Unit types (i + 1) (unit * 256)
  unit-more h = record { some = omega arith; within = omega arith; is = go i U.some U.is }
    where
      go : (i : ℕ) → 1 ≤ i → unit ≡ 256 ^ (i - 1) → unit * 256 ≡ 256 ^ (i + 1 - 1)
      go zero h is = absurd (omega arith)
      go (suc i) h is =
          let less : suc i - 1 ≡ i = omega arith in
          let more : suc i + 1 - 1 ≡ suc i = omega arith in
          rw (is, less, more) (sym (pow-suc 256 i))

  pub unit-done : types ≤ i → unit ≡ 256 ^ (types - 1)
  unit-done h = let all : i ≡ types = omega (arith, U.within) in rw all at U.is

unit-less : (left unit : ℕ) → unit ≡ 256 ^ suc left → unit / 256 ≡ 256 ^ left
unit-less left unit is = let p = pow-suc 256 left in omega (arith, is)

-- the first i kinds stand in l, and the others are left in `rest`
pub record Unpacking (types packed : ℕ) (l₀ l : List ℕ) (unit rest i : ℕ) : Type 0 where
  pub long : length l ≡ length l₀
  pub within : i ≤ types
  pub stands : (left : ℕ) → left + i ≡ types → sets l i (put_fixed left rest) ≡ sets l₀ 0 (put_fixed types packed)
  pub unit-is : (left : ℕ) → suc left + i ≡ types → unit ≡ 256 ^ left

pub unpack-start : (types packed unit : ℕ) (l : List ℕ) → 1 ≤ types → unit ≡ 256 ^ (types - 1) → Unpacking types packed l l unit packed 0
unpack-start types packed unit l some is =
    record {
      long = refl;
      within = omega arith;
      stands = λ left e. let z : left ≡ types = omega arith in rw z;
      unit-is = λ left e. let z : types - 1 ≡ left = omega arith in rw z at is;
    }

module _ {types packed : ℕ} {l₀ l : List ℕ} {unit rest i : ℕ} (U : Unpacking types packed l₀ l unit rest i) where
  pub unit-some : i < types → 0 < unit
  unit-some h = rw (U.unit-is (types - 1 - i) (omega arith)) (one-le-pow (types - 1 - i) 256 (omega arith))

  pub unpack-on : i < types → Unpacking types packed l₀ (slice_set l i (rest / unit)) (unit / 256) (rest % unit) (i + 1)
  unfolding put_fixed
  unpack-on h =
      record {
        long = length-set l i (rest / unit) ∙ U.long;
        within = omega arith;
        stands = next;
        unit-is = λ left e. unit-less left unit (U.unit-is (suc left) (omega arith));
      }
    where
      next : (left : ℕ) → left + (i + 1) ≡ types → sets (slice_set l i (rest / unit)) (i + 1) (put_fixed left (rest % unit)) ≡ sets l₀ 0 (put_fixed types packed)
      next left e = rw (U.unit-is left (omega arith), add-one i) (U.stands (suc left) (omega arith))

  pub unpack-done : types ≤ i → types ≤ length l₀ → l ≡ over_front (put_fixed types packed) l₀
  unfolding put_fixed
  unpack-done h room =
      let all : 0 + i ≡ types = omega (arith, U.within) in
      U.stands 0 all ∙ sets-front (put_fixed types packed) l₀ (rw (fixed-length types packed) room)
