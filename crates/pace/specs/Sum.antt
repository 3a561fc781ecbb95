-- The sum that the benchmark asks for, and the loop that makes it. Assumes nothing.
use Rattle.std.specs.Prelude.{Err, Ok, ◌≡◌, ℕ, zero, suc, ◌+◌, ◌-◌, ◌%◌, ◌^◌, ◌<◌, ◌≤◌, List, length}
use Rattle.std.proofs.Math.Path.{refl, ap}
use Rattle.std.proofs.Common.{sym, ◌∙◌, zero-add, add-zero, add_assoc, mod-lt, mod-eq_of_lt, lit<}
use native.Mathlib.Omega.{arith}
use Rattle.std.proofs.Math.Nat.{mod-add-mod}
use Rattle.paper.specs.Reader.{Out, got, no}
use Rattle.paper.specs.Numbers.{v64}
use Rattle.numbers.specs.Cursors.{Outcome, Read, was-got, was-refused}
use Rattle.numbers.specs.declared.Cursor.{Cursor}
use Rattle.numbers.specs.declared.Refusal.{Refusal}

abbrev added : Out ℕ → (ℕ → ℕ) → ℕ
added (got x e) rest = x + rest e
added (no n p) rest = 0

-- of the numbers from `at` on, n at most, up to the first that is refused
unfoldable pub sum_from : ℕ → List ℕ → ℕ → ℕ
sum_from zero f at = 0
sum_from (suc n) f at = added (v64 f at) (λ e. sum_from n f e)

-- of all from the start, modulo 2^64: a number has at least a byte, so there are no more than bytes
unfoldable pub sum_of : List ℕ → ℕ
sum_of f = sum_from (length f) f 0 % 2 ^ 64

-- ── the loop: what is summed, and what is left to sum, give the whole ──

pub record Summing (f : List ℕ) (sum at left : ℕ) : Type 0 where
  pub says : (sum + sum_from left f at) % 2 ^ 64 ≡ sum_of f
  pub below : sum < 2 ^ 64

pub summing_start : (f : List ℕ) {left : ℕ} → left ≡ length f → Summing f 0 0 left
unfolding sum_of
summing_start f all = record { says = rw (zero-add, all) refl; below = lit< tt }

module _ {f : List ℕ} {sum at left : ℕ} (R : Summing f sum at left) where
  -- nothing is left
  whole : sum_from left f at ≡ 0 → sum ≡ sum_of f
  whole none = sym (mod-eq_of_lt R.below) ∙ ap (λ (s : ℕ). s % 2 ^ 64) (sym (ap (λ (r : ℕ). sum + r) none ∙ add-zero sum)) ∙ R.says

  pub summing-done : left ≤ 0 → sum ≡ sum_of f
  unfolding sum_from
  summing-done le = let none : left ≡ 0 = omega arith in whole (rw none refl)

  module _ (more : 0 < left) {b : ℕ} {a : Outcome ℕ} (read : Read v64 b f at a) where
    one_less : left ≡ suc (left - 1)
    one_less = omega arith

    pub summing-no : {e : Refusal} → a ≡ Err e → sum ≡ sum_of f
    unfolding sum_from
    summing-no is = whole (ap (λ (n : ℕ). sum_from n f at) one_less ∙ rw (was-refused read is).says refl)

    one_more : {x : ℕ} {c : Cursor} → a ≡ Ok (x, c) → sum_from left f at ≡ x + sum_from (left - 1) f c.at
    unfolding sum_from
    one_more is = ap (λ (n : ℕ). sum_from n f at) one_less ∙ rw (was-got read is).says refl

    pub summing-next : {x t k : ℕ} {c : Cursor} → a ≡ Ok (x, c) → t ≡ (sum + x) % 2 ^ 64 → k ≡ left - 1 → Summing f t c.at k
    summing-next {x} {t} {k} {c} is wrapped less =
        record {
          says =
              ap (λ (n : ℕ). (t + sum_from n f c.at) % 2 ^ 64) less
              ∙ ap (λ (s : ℕ). (s + sum_from (left - 1) f c.at) % 2 ^ 64) wrapped
              ∙ mod-add-mod (sum + x) (2 ^ 64) (sum_from (left - 1) f c.at)
              ∙ ap (λ (s : ℕ). s % 2 ^ 64) (add_assoc sum x (sum_from (left - 1) f c.at) ∙ ap (λ (r : ℕ). sum + r) (sym (one_more is)))
              ∙ R.says;
          below = rw wrapped (mod-lt (sum + x) (lit< tt));
        }
