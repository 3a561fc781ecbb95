-- Names of which none occurs twice: one more, and fewer of them. Assumes nothing.
use Rattle.std.specs.Prelude.{◌≡◌, ℕ, zero, suc, ◌+◌, ◌<◌, Bool, true, false, List, [], ◌∷◌, ◌++◌, length, take, slice_index_or}
use Rattle.std.proofs.Math.Path.{refl, ap}
use Rattle.std.proofs.Common.{sym, ◌∙◌, subst, ⊎_elim, add-zero, eq-or-lt_of_le, le_of_suc-le-suc, eq-eqb, length-append, get_or-take}
use Rattle.std.proofs.Math.Option.{Option, none, some}
use native.Mathlib.Omega.{arith}
use Rattle.std.proofs.Math.ListN.{get_or-append}
use Rattle.std.proofs.Math.Seq.{get_or-append_seam}
use Rattle.paper.specs.Reader.{when◌then◌else◌}
use Rattle.paper.specs.Lists.{same, place}
use Rattle.table.specs.View.{Apart}
use Rattle.table.specs.Loops.{place_in}

-- a list is the same as itself
pub same_self : (xs : List ℕ) → same xs xs ≡ true
unfolding same
same_self [] = refl
same_self (x ∷ xs) = rw (eq-eqb x x refl, same_self xs) refl

module _ {A : Type 0} (p : A → Bool) where
  pub nowhere : {i : ℕ} → ◌≡◌ {A = Option ℕ} none (some i) → ⊥
  nowhere q = let z : ◌≡◌ {A = ℕ} 0 1 = cc q in omega arith

  -- what is found is found in a longer list
  pub place-longer : (k : ℕ) (xs ys : List A) {i : ℕ} → place p k xs ≡ some i → place p k (xs ++ ys) ≡ some i
  unfolding place when◌then◌else◌
  place-longer k [] ys q = absurd (nowhere q)
  place-longer k (x ∷ xs) ys {i} q = go (place-longer (suc k) xs ys) (p x) q
    where
      go : (place p (suc k) xs ≡ some i → place p (suc k) (xs ++ ys) ≡ some i) → (b : Bool) → (when b then some k else place p (suc k) xs) ≡ some i → (when b then some k else place p (suc k) (xs ++ ys)) ≡ some i
      go rest true e = e
      go rest false e = rest e

  -- what is found nowhere before is found behind
  pub place-last : (k : ℕ) (xs : List A) (x : A) → place p k xs ≡ none → p x ≡ true → place p k (xs ++ x ∷ []) ≡ some (k + length xs)
  unfolding place when◌then◌else◌
  place-last k [] x q holds = rw (holds, add-zero) refl
  place-last k (y ∷ ys) x q holds = go (λ e. place-last (suc k) ys x e holds ∙ ap some (omega arith)) (p y) q
    where
      go : (place p (suc k) ys ≡ none → place p (suc k) (ys ++ x ∷ []) ≡ some (k + suc (length ys))) → (b : Bool) → (when b then some k else place p (suc k) ys) ≡ none → (when b then some k else place p (suc k) (ys ++ x ∷ [])) ≡ some (k + suc (length ys))
      go rest true e = absurd (nowhere (sym e))
      go rest false e = rest e

  -- and is looked for there
  pub place-behind : (k : ℕ) (xs ys : List A) → place p k xs ≡ none → place p k (xs ++ ys) ≡ place p (k + length xs) ys
  unfolding place when◌then◌else◌
  place-behind k [] ys q = let z : k + 0 ≡ k = omega arith in rw z refl
  place-behind k (x ∷ xs) ys q = let z : suc k + length xs ≡ k + suc (length xs) = omega arith in go (λ e. place-behind (suc k) xs ys e ∙ ap (λ (j : ℕ). place p j ys) z) (p x) q
    where
      go : (place p (suc k) xs ≡ none → place p (suc k) (xs ++ ys) ≡ place p (k + suc (length xs)) ys) → (b : Bool) → (when b then some k else place p (suc k) xs) ≡ none → (when b then some k else place p (suc k) (xs ++ ys)) ≡ place p (k + suc (length xs)) ys
      go rest true e = absurd (nowhere (sym e))
      go rest false e = rest e

  -- what is found among the first is found in the first
  place-fewer : (n k : ℕ) (xs : List A) {i : ℕ} → place p k xs ≡ some i → i < k + n → place p k (take n xs) ≡ some i
  unfolding place when◌then◌else◌
  place-fewer n k [] q lt = absurd (nowhere q)
  place-fewer zero k (x ∷ xs) {i} q lt = absurd (omega (arith, (place_in p k (x ∷ xs) q).0))
  place-fewer (suc n) k (x ∷ xs) {i} q lt = go (λ e. place-fewer n (suc k) xs e (omega arith)) (p x) q
    where
      go : (place p (suc k) xs ≡ some i → place p (suc k) (take n xs) ≡ some i) → (b : Bool) → (when b then some k else place p (suc k) xs) ≡ some i → (when b then some k else place p (suc k) (take n xs)) ≡ some i
      go rest true e = e
      go rest false e = rest e

pub apart_none : Apart []
apart_none = record { first = λ i lt. absurd (omega arith) }

pub apart_more : (names : List (List ℕ)) (x : List ℕ) → Apart names → place (same x) 0 names ≡ none → Apart (names ++ x ∷ [])
apart_more names x a new =
    let z : 0 + length names ≡ length names = omega arith in
    record {
      first = λ i lt.
          ⊎_elim
          (λ (e : i ≡ length names). rw (e, get_or-append_seam names x [] []) (place-last (same x) 0 names x new (same_self x) ∙ ap some z))
          (λ (less : i < length names). rw (get_or-append names (x ∷ []) [] i less) (place-longer (same (slice_index_or names i [])) 0 names (x ∷ []) (a.first i less)))
          (eq-or-lt_of_le (le_of_suc-le-suc (subst (λ (m : ℕ). i < m) (length-append names (x ∷ []) ∙ omega arith) lt)));
    }

in_take : {A : Type 0} (n : ℕ) (xs : List A) {i : ℕ} → i < length (take n xs) → (i < n) × (i < length xs)
in_take zero xs lt = absurd (omega arith)
in_take (suc n) [] lt = absurd (omega arith)
in_take (suc n) (x ∷ xs) {i = zero} lt = (omega arith, omega arith)
in_take (suc n) (x ∷ xs) {i = suc i} lt = let r = in_take n xs (le_of_suc-le-suc lt) in (omega arith, omega arith)

pub apart-cut : (n : ℕ) (names : List (List ℕ)) → Apart names → Apart (take n names)
apart-cut n names a =
    record {
      first = λ i lt. let r = in_take n names lt in rw (get_or-take n names i [] r.0) (place-fewer (same (slice_index_or names i [])) n 0 names (a.first i r.1) (omega arith));
    }
