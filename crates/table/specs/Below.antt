-- Super types by the numbers that stand for them, 0 for none and u + 1 for u. Assumes nothing.
use Rattle.std.specs.Prelude.{◌≡◌, ℕ, zero, suc, ◌+◌, ◌-◌, ◌<◌, Bool, true, false, not, List, ◌==◌, ◌≢◌, nat_eq}
use Rattle.std.proofs.Math.Path.{refl, ap}
use Rattle.std.proofs.Common.{sym, ◌∙◌, true≢false, eq-eqb, ne_eqb}
use Rattle.std.proofs.Math.Option.{Option, none, some}
use native.Mathlib.Omega.{arith}
use Rattle.paper.specs.Lists.{given?}
use Rattle.paper.specs.Ledger.{Typ, Range, type_in, base?}
use Rattle.paper.specs.Rules.{below?, chain_ends?}
use Rattle.table.specs.View.{maybe}

case : Option ℕ → ℕ → Bool
case o u = elim o [ none ↦ false | some v ↦ nat_eq v u ]

case-no : (s u : ℕ) → (s ≢ u + 1) → case (maybe s) u ≡ false
unfolding case
case-no zero u ne = refl
case-no (suc v) u ne = ne_eqb v u (λ e. ne (omega arith))

case-yes : (s u : ℕ) → s ≡ u + 1 → case (maybe s) u ≡ true
unfolding case
case-yes zero u e = absurd (omega arith)
case-yes (suc v) u e = eq-eqb v u (omega arith)

module _ (ts : List Typ) (t u : ℕ) {s : ℕ} (is : maybe s ≡ (type_in ts t).super) where
  pub not-below : (s ≢ u + 1) → below? ts t u ≡ false
  unfolding below? case
  not-below ne = ap (λ (o : Option ℕ). case o u) (sym is) ∙ case-no s u ne

  pub is_below : s ≡ u + 1 → below? ts t u ≡ true
  unfolding below? case
  is_below e = ap (λ (o : Option ℕ). case o u) (sym is) ∙ case-yes s u e

-- a base type has no super type
pub none_above : (s : ℕ) → (s == 0) ≡ not (given? (maybe s))
unfolding given?
none_above zero = refl
none_above (suc v) = ne_eqb (suc v) 0 (omega arith)

pub is_base : (ts : List Typ) (r : Range) (s : ℕ) → maybe s ≡ (type_in ts r.type).super → (s == 0) ≡ base? ts r
unfolding base?
is_base ts r s is = none_above s ∙ ap (λ (o : Option ℕ). not (given? o)) is

-- ── the chain upwards, by the numbers that stand for super types ──

module _ (ts : List Typ) (t : ℕ) where
  pub chain-none : (n a : ℕ) → 0 < n → a ≡ 0 → chain_ends? n ts t (maybe a) ≡ true
  unfolding chain_ends?
  chain-none zero a lt e = absurd (omega arith)
  chain-none (suc n) a lt e = rw e refl

  pub chain-meets : (n a : ℕ) → 0 < n → 0 < a → a - 1 ≡ t → chain_ends? n ts t (maybe a) ≡ false
  unfolding chain_ends?
  chain-meets zero a lt gt e = absurd (omega arith)
  chain-meets (suc n) zero lt gt e = absurd (omega arith)
  chain-meets (suc n) (suc u) lt gt e = simp (eq-eqb u t (omega arith))

  pub chain-on : (n a s : ℕ) → 0 < n → 0 < a → (a - 1 ≢ t) → maybe s ≡ (type_in ts (a - 1)).super → chain_ends? n ts t (maybe a) ≡ chain_ends? (n - 1) ts t (maybe s)
  unfolding chain_ends?
  chain-on zero a s lt gt ne is = absurd (omega arith)
  chain-on (suc n) zero s lt gt ne is = absurd (omega arith)
  chain-on (suc n) (suc u) s lt gt ne is =
      let left : suc n - 1 ≡ n = omega arith in
      let up : u ≡ suc u - 1 = omega arith in
      simp (ne_eqb u t (λ e. ne (omega arith)), left) (ap (λ (k : ℕ). chain_ends? n ts t (type_in ts k).super) up ∙ ap (chain_ends? n ts t) (sym is))

  pub chain-over : (n a : ℕ) → n ≡ 0 → (a == 0) ≡ chain_ends? n ts t (maybe a)
  unfolding chain_ends?
  chain-over n a e = rw e (none_above a)

pub no-super : (s : ℕ) {o : Option ℕ} → maybe s ≡ o → given? o ≡ false → s ≡ 0
unfolding given?
no-super zero is h = refl
no-super (suc u) is h = let z : ◌≡◌ {A = Bool} true false = ap given? is ∙ h in absurd (true≢false z)
