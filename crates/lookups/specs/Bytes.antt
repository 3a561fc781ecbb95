-- A map's element kinds, asked one after the other from the last of the bytes in which a row has them. Assumes nothing.
use Rattle.std.specs.Prelude.{◌≡◌, refl, Bool, true, false, ◌&&◌, List, [], ◌∷◌, ◌++◌, ℕ, zero, suc, ◌+◌, ◌-◌, ◌*◌, ◌/◌, ◌%◌, ◌^◌, ◌≤◌, ◌<◌}
use Rattle.std.proofs.Math.Path.{sym, ap}
use Rattle.std.proofs.Common.{ap₂, ◌∙◌, mul_assoc, pow-suc, add-zero, mod-lt, mod-eq_of_lt, div-add-mod'}
use native.Mathlib.Omega.{arith}
use Rattle.std.proofs.Math.Nat.{one-le-pow, div-eq_of_lt, mul-add-div_right, mul-add-mod_self_right}
use Rattle.paper.specs.Lists.{all}
use Rattle.paper.specs.Numbers.{put_fixed}

pub all_append : {A : Type 0} (p : A → Bool) (xs ys : List A) → all p (xs ++ ys) ≡ (all p xs && all p ys)
unfolding all
all_append p [] ys = refl
all_append p (x ∷ xs) ys = ap (λ (b : Bool). p x && b) (all_append p xs ys) ∙ sym (and_assoc (p x) (all p xs) (all p ys))
  where
    and_assoc : (x y z : Bool) → ((x && y) && z) ≡ (x && (y && z))
    and_assoc true y z = refl
    and_assoc false y z = refl

pub and-true : (b : Bool) → (b && true) ≡ b
and-true true = refl
and-true false = refl

and-false : (b : Bool) → (b && false) ≡ false
and-false true = refl
and-false false = refl

-- ── the last byte of a number ──

-- r is the last: what stands before it is divided as if r were not there
module _ (unit q r : ℕ) (pos : 0 < unit) (lt : r < 256) where
  parts : q * 256 + r ≡ q / unit * (unit * 256) + (q % unit * 256 + r)
  parts = omega (arith, div-add-mod' q unit, mul_assoc (q / unit) unit 256)

  less : q % unit * 256 + r < unit * 256
  less = omega (arith, mod-lt q pos)

  first_byte : (q * 256 + r) / (unit * 256) ≡ q / unit
  first_byte =
      ap (λ (n : ℕ). n / (unit * 256)) parts ∙ mul-add-div_right {m = unit * 256} (omega arith) (q / unit) (q % unit * 256 + r)
      ∙ ap (λ (n : ℕ). q / unit + n) (div-eq_of_lt less) ∙ add-zero (q / unit)

  other-bytes : (q * 256 + r) % (unit * 256) ≡ q % unit * 256 + r
  other-bytes = ap (λ (n : ℕ). n % (unit * 256)) parts ∙ mul-add-mod_self_right (q / unit) (unit * 256) (q % unit * 256 + r) ∙ mod-eq_of_lt less

put_last : (w q r : ℕ) → r < 256 → put_fixed (suc (suc w)) (q * 256 + r) ≡ put_fixed (suc w) q ++ r ∷ []
unfolding put_fixed
put_last zero q r lt =
    let before : (q * 256 + r) / 256 ≡ q / 1 = omega arith in
    let last : (q * 256 + r) % 256 / 1 ≡ r = omega arith in
    ap₂ (λ (x y : ℕ). x ∷ y ∷ []) before last
put_last (suc w) q r lt =
    let pos : 0 < 256 ^ suc w = one-le-pow (suc w) 256 (omega arith) in
    let more = pow-suc 256 (suc w) in
    ap₂ (λ (x : ℕ) (xs : List ℕ). x ∷ xs)
    (ap (λ (n : ℕ). (q * 256 + r) / n) more ∙ first_byte (256 ^ suc w) q r pos lt)
    (ap (λ (n : ℕ). put_fixed (suc (suc w)) ((q * 256 + r) % n)) more ∙ ap (put_fixed (suc (suc w))) (other-bytes (256 ^ suc w) q r pos lt) ∙ put_last w (q % 256 ^ suc w) r lt)

-- ── all of them ──

module _ (p : ℕ → Bool) where
  all-last : (w n : ℕ) → all p (put_fixed (suc (suc w)) n) ≡ (all p (put_fixed (suc w) (n / 256)) && p (n % 256))
  unfolding all
  all-last w n =
      ap (λ (m : ℕ). all p (put_fixed (suc (suc w)) m)) (sym (div-add-mod' n 256))
      ∙ ap (all p) (put_last w (n / 256) (n % 256) (mod-lt n (omega arith)))
      ∙ all_append p (put_fixed (suc w) (n / 256)) (n % 256 ∷ [])
      ∙ ap (λ (b : Bool). all p (put_fixed (suc w) (n / 256)) && b) (and-true (p (n % 256)))

  from_last : (left n : ℕ) → 1 < left → all p (put_fixed left n) ≡ (all p (put_fixed (left - 1) (n / 256)) && p (n % 256))
  from_last zero n h = absurd (omega arith)
  from_last (suc zero) n h = absurd (omega arith)
  from_last (suc (suc w)) n h = let z : suc (suc w) - 1 ≡ suc w = omega arith in rw z (all-last w n)

  pub none-asked : {count : ℕ} (packed : ℕ) → count ≡ 0 → true ≡ all p (put_fixed count packed)
  unfolding all put_fixed
  none-asked packed is = rw is

  -- those behind the first `left` pass: what is left gives the whole
  pub record Asked (count packed left rest : ℕ) : Type 0 where
    pub some : 1 ≤ left
    pub says : all p (put_fixed left rest) ≡ all p (put_fixed count packed)

  pub asked-start : {count : ℕ} (packed : ℕ) → (count ≡ 0 → ⊥) → Asked count packed count packed
  asked-start packed some = record { some = omega arith; says = refl }

  module _ {count packed left rest : ℕ} (A : Asked count packed left rest) where
    pub asked-first : left ≤ 1 → {b : Bool} → b ≡ p rest → b ≡ all p (put_fixed count packed)
    unfolding all put_fixed
    asked-first le {b} is =
        let one : left ≡ 1 = omega (arith, A.some) in
        let whole : rest / 1 ≡ rest = omega arith in
        is ∙ sym (and-true (p rest)) ∙ ap (λ (n : ℕ). p n && true) (sym whole) ∙ ap (λ (n : ℕ). all p (put_fixed n rest)) (sym one) ∙ A.says

    module _ (more : 1 < left) {b : Bool} (is : b ≡ p (rest % 256)) where
      pub asked-out : b ≡ false → false ≡ all p (put_fixed count packed)
      asked-out no? = sym (from_last left rest more ∙ ap (λ (c : Bool). all p (put_fixed (left - 1) (rest / 256)) && c) (sym is ∙ no?) ∙ and-false (all p (put_fixed (left - 1) (rest / 256)))) ∙ A.says

      pub asked-on : b ≡ true → Asked count packed (left - 1) (rest / 256)
      asked-on yes? =
          record {
            some = omega arith;
            says = sym (from_last left rest more ∙ ap (λ (c : Bool). all p (put_fixed (left - 1) (rest / 256)) && c) (sym is ∙ yes?) ∙ and-true (all p (put_fixed (left - 1) (rest / 256)))) ∙ A.says;
          }
