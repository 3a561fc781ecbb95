-- A refusal's number with a minus, in a machine's terms. Assumes nothing.
use mathlib.Core.Path.{◌≡◌, refl, sym, ap, ◌∙◌}
use Prim.Native.Nat.{ℕ, zero, suc, ◌-◌, ◌^◌, ◌≤◌, ◌<◌}
use native.Mathlib.Omega.{arith}
use native.Mathlib.Nat.{lt_of_not-le}
use native.Mathlib.Decide.{dec_le}
use lib.IntN.{ℤ, pos, neg_ℤ, ◌-ℤ◌}
use mir.Syntax.{w64}
use mir.Val.{SFits, to_z, of_z}
use mir.Facts.{to_z-of_z, to_z_pos}
use borrow.Author.Tests.{le-leb, lt-leb, lt-ltb}
use Rattle.std.specs.Prelude.{Result, Ok, Err}
use Rattle.std.specs.Result.{OkIff, result_unwrap_or}
use Rattle.std.proofs.lemmas.Result.{OkIff-at_ok, OkIff-at_err}
use Rattle.paper.specs.Reader.{when◌then◌else◌}
use Rattle.capi.specs.Coded.{up_to_top}

pub top-low : (n : ℕ) → n ≤ 9223372036854775807 → up_to_top n ≡ n
unfolding up_to_top when◌then◌else◌
top-low n h = rw (le-leb n 9223372036854775807 h)

pub top-high : (n : ℕ) → 9223372036854775807 < n → up_to_top n ≡ 9223372036854775807
unfolding up_to_top when◌then◌else◌
top-high n h = rw (lt-leb n 9223372036854775807 h)

-- what the library's conversion gives, with the top in place of what does not fit
pub capped :
    {E : Type 0} (n : ℕ) (r : Result ℤ E) → OkIff r (SFits w64 (pos n)) (pos n)
    → result_unwrap_or r (pos 9223372036854775807) ≡ pos (up_to_top n)
capped {E} n (Ok x) h =
    let q = OkIff-at_ok {T = ℤ} {E = E} (Ok x) (SFits w64 (pos n)) (pos n) x h refl in
    q.1 ∙ ap pos (sym (top-low n (omega (arith, q.0.sfits))))
capped {E} n (Err e) h =
    let q = OkIff-at_err {T = ℤ} {E = E} (Err e) (SFits w64 (pos n)) (pos n) e h refl in
    elim (dec_le n 9223372036854775807) [
      | yes d ↦ absurd (q (record { sfits = omega arith }))
      | no d ↦ ap pos (sym (top-high n (lt_of_not-le d)))
    ]

below_top : (n : ℕ) → up_to_top n < 2 ^ 63
below_top n =
    elim (dec_le n 9223372036854775807) [
      | yes d ↦ omega (arith, top-low n d)
      | no d ↦ omega (arith, top-high n (lt_of_not-le d))
    ]

minus_is : (m : ℕ) → pos 0 -ℤ pos m ≡ neg_ℤ (pos m)
minus_is zero = refl
minus_is (suc m) = let less : suc m - 1 ≡ m = omega arith in rw (lt-ltb 0 (suc m) (omega arith), less)

minus-small : (m : ℕ) → m < 2 ^ 63 → SFits w64 (neg_ℤ (pos m))
minus-small zero h = record { sfits = omega arith }
minus-small (suc m) h = record { sfits = omega arith }

module _ (n : ℕ) (z : ℤ) (is : to_z w64 (of_z w64 z) ≡ pos (up_to_top n)) where
  turned : pos 0 -ℤ to_z w64 (of_z w64 z) ≡ neg_ℤ (pos (up_to_top n))
  turned = ap (λ (y : ℤ). pos 0 -ℤ y) is ∙ minus_is (up_to_top n)

  pub minus-fits : SFits w64 (pos 0 -ℤ to_z w64 (of_z w64 z))
  minus-fits = rw turned (minus-small (up_to_top n) (below_top n))

  pub minus-read : to_z w64 (of_z w64 (pos 0 -ℤ to_z w64 (of_z w64 z))) ≡ neg_ℤ (pos (up_to_top n))
  minus-read = to_z-of_z minus-fits ∙ turned
