-- An annotation by numbers alone: for each string, how many objects the base type of that name has. Assumes nothing.
use Rattle.std.specs.Prelude.{Ok, Err, ◌≡◌, ℕ, ◌-◌, ◌^◌, ◌<◌, ◌≤◌, Bool, true, false, ◌&&◌, List, [], ◌∷◌, length, ◌==◌, ◌≢◌, nat_le, slice_index}
use Rattle.std.proofs.Math.Path.{sym}
use native.Mathlib.Omega.{arith}
use Rattle.std.proofs.Math.ListN.{get_or-eq_default}
use borrow.Author.Tests.{ne_eqb, le-leb, lt-leb}
use Rattle.paper.specs.Reader.{when◌then◌else◌, Reader, ◌>>=◌, give, must, ◌or_no◌}
use Rattle.paper.specs.Numbers.{v64}
use Rattle.paper.specs.File.{two_numbers}
use Rattle.numbers.specs.Cursors.{Outcome, Read, was-got, was-refused}
use Rattle.numbers.specs.declared.Cursor.{Cursor}
use Rattle.numbers.specs.declared.Refusal.{Refusal}
use Rattle.values.specs.Pass.{forget, Passed}
use Rattle.numbers.specs.declared.Fault.TheVariants as fault

-- object n of the base type that string m names, or 0 and 0
unfoldable pub placed? : List ℕ → ℕ → ℕ → Bool
placed? pools m n = when m == 0 then (n == 0) else (nat_le 1 n && nat_le n (slice_index pools (m - 1)))

unfoldable pub annotated : (ℕ → ℕ → Bool) → Reader ℕ
annotated ok = must two_numbers (λ p. (ok p.0 p.1 or_no 14) ∷ []) >>= λ p. give p.1

-- ── the rule, as code asks it ──

module _ (pools : List ℕ) (m n : ℕ) where
  pub placed-null : m ≡ 0 → (n == 0) ≡ placed? pools m n
  unfolding placed? when◌then◌else◌
  placed-null h = rw h

  module _ (named : m ≡ 0 → ⊥) where
    pub placed-half : n ≡ 0 → false ≡ placed? pools m n
    unfolding placed? when◌then◌else◌
    placed-half h = rw (ne_eqb m 0 named, h)

    pub placed-far : (n ≢ 0) → length pools < m → false ≡ placed? pools m n
    unfolding placed? when◌then◌else◌
    placed-far h far =
        let past : length pools ≤ m - 1 = omega arith in
        rw (ne_eqb m 0 named, le-leb 1 n (omega arith), get_or-eq_default pools 0 past, lt-leb n 0 (omega arith))

    pub placed-some : (n ≢ 0) → nat_le n (slice_index pools (m - 1)) ≡ placed? pools m n
    unfolding placed? when◌then◌else◌
    placed-some h = rw (ne_eqb m 0 named, le-leb 1 n (omega arith))

-- ── the two numbers, as code reads them ──

module _ (ok : ℕ → ℕ → Bool) {f : List ℕ} {at : ℕ} {a : Outcome ℕ} (R : Read v64 (2 ^ 64) f at a) where
  pub first-no : {u : Refusal} → a ≡ Err u → Passed (annotated ok) f at (Err u)
  unfolding annotated must two_numbers ◌>>=◌ give forget
  first-no is = let W = was-refused R is in record { says = sym (rw W.says); inside = W.inside }

  module _ {m : ℕ} {c : Cursor} (is : a ≡ Ok (m, c)) {b : Outcome ℕ} (S : Read v64 (2 ^ 64) f c.at b) where
    pub second-no : {u : Refusal} → b ≡ Err u → Passed (annotated ok) f at (Err u)
    unfolding annotated must two_numbers ◌>>=◌ give forget
    second-no is₂ =
        let W = was-got R is in
        let U = was-refused S is₂ in
        record { says = sym (rw (W.says, U.says)); inside = λ h. U.inside (W.inside h) }

    module _ {n : ℕ} {d : Cursor} (is₂ : b ≡ Ok (n, d)) where
      pub both-taken : (x : ℕ) → ok m n ≡ true → Passed (annotated ok) f at (Ok (x, d))
      unfolding annotated must two_numbers ◌>>=◌ give forget
      both-taken x t =
          let W = was-got R is in
          let U = was-got S is₂ in
          record { says = sym (rw (W.says, U.says, t)); inside = λ h. U.inside (W.inside h) }

      pub both-refused : ok m n ≡ false → Passed (annotated ok) f at (Err (record { fault = fault.Reference; place = at }))
      unfolding annotated must two_numbers ◌>>=◌ give forget
      both-refused t =
          let W = was-got R is in
          let U = was-got S is₂ in
          record { says = sym (rw (W.says, U.says, t)); inside = λ h. h }
