-- The kinds of elements, told apart by their numbers. Assumes nothing.
use Rattle.std.specs.Prelude.{◌≡◌, ℕ, suc, ◌-◌, ◌*◌, ◌^◌, ◌≤◌, true, false, leb, ◌⊎◌, ◌==◌, ◌≢◌, nat_le}
use Rattle.std.proofs.Common.{inl, inr, arith, lt_of_not-le, leb-true, le-leb, ne_eqb}
use Rattle.std.proofs.Math.Decide.{dec_le}
use Rattle.std.proofs.lemmas.Bool.{lt-leb}
use Rattle.paper.specs.Reader.{when◌then◌else◌}
use Rattle.paper.specs.Rules.{single_kind?, element_kind?}
use Rattle.laws.specs.Bools.{not_so}

-- the first is that of bools
pub listed-low : (k : ℕ) → single_kind? k ≡ true → 6 ≤ k
unfolding single_kind?
listed-low k h =
    elim (dec_le 6 k) [
      | yes d ↦ d
      | no d ↦ (let lt = lt_of_not-le d in not_so (simp (lt-leb 6 k lt, lt-leb 32 k (omega arith)) at h))
    ]

-- an annotation has two numbers
pub single-5 : (k : ℕ) → single_kind? k ≡ true → (k == 5) ≡ false
single-5 k h = let low = listed-low k h in ne_eqb k 5 (λ e. omega arith)

-- every other element has one
pub other-single : (k : ℕ) → element_kind? k ≡ true → (k ≢ 5) → single_kind? k ≡ true
unfolding element_kind?
other-single k h other = rw (ne_eqb k 5 other) at h

-- above a string's kind only those of objects are listed
pub listed-object : (k : ℕ) → single_kind? k ≡ true → 14 ≤ k → (k ≢ 14) → 32 ≤ k
unfolding single_kind?
listed-object k listed h other =
    let big : leb 32 k ≡ true = simp (le-leb 6 k (omega arith), lt-leb k 14 (omega arith)) at listed in
    leb-true 32 k big

past : (n : ℕ) {k : ℕ} → n ≤ k → (k ≢ n) → suc n ≤ k
past n h other = omega arith

-- a kind that has no other reader names a type
pub others-linked :
    (k : ℕ) → element_kind? k ≡ true → (k ≢ 5) → (k ≢ 6) → (k ≢ 7) → (k ≢ 8) → ((k ≡ 9) ⊎ (k ≡ 12) → ⊥) → ((k ≡ 10) ⊎ (k ≡ 13) → ⊥) → (k ≢ 11) → (k ≢ 14)
    → 32 ≤ k
others-linked k h a5 a6 a7 a8 b c a11 a14 =
    let single = other-single k h a5 in
    let to-10 = past 9 (past 8 (past 7 (past 6 (listed-low k single) a6) a7) a8) (λ q. b (inl q)) in
    let to-14 = past 13 (past 12 (past 11 (past 10 to-10 (λ q. c (inl q))) a11) (λ q. b (inr q))) (λ q. c (inr q)) in
    listed-object k single to-14 a14

-- a kind of a fixed width, and the width in bytes
pub record Fixed (k : ℕ) : Type 0 where
  pub low : 7 ≤ k
  pub high : k ≤ 13
  pub not-v64 : k ≡ 11 → ⊥

unfoldable pub width_of : ℕ → ℕ
width_of k = when nat_le k 10 then 2 ^ (k - 7) else 4 * (k - 11)

-- the widest are i64 and f64
pub width-most : {k : ℕ} → Fixed k → (k ≢ 7) → (k ≢ 8) → ((k ≡ 9) ⊎ (k ≡ 12) → ⊥) → 8 ≡ width_of k
unfolding width_of when◌then◌else◌
width-most {k} h x y z =
    elim (dec_le k 10) [
      | yes d ↦
          (let not-9 : k ≡ 9 → ⊥ = λ q. z (inl q) in
          let is : k ≡ 10 = omega (arith, h.low) in
          rw is)
      | no d ↦
          (let not-12 : k ≡ 12 → ⊥ = λ q. z (inr q) in
          let is : k ≡ 13 = omega (arith, lt_of_not-le d, h.high, h.not-v64) in
          rw is)
    ]
