-- Elements of which it is known that they keep the rules: the number that stands for one, and what it stands for. Assumes nothing.
use Rattle.std.specs.Prelude.{◌≡◌, ℕ, ◌-◌, ◌*◌, ◌^◌, ◌<◌, ◌≤◌, Bool, true, false, ◌||◌, ltb, leb, ◌⊎◌, List, [], ◌∷◌, ℤ, ◌==◌, ◌≢◌, nat_eq, nat_le, nat_lt}
use Rattle.std.proofs.Math.Path.{refl, ap}
use Rattle.std.proofs.Common.{◌∙◌, inl, inr, arith, lt_of_not-le}
use Rattle.std.proofs.Math.Decide.{dec_le}
use borrow.Author.Tests.{leb-false, le-leb, lt-leb, le-ltb, ne_eqb}
use Rattle.paper.specs.Reader.{when◌then◌else◌, Reader, Out, got, and_then, ◌>>=◌, give, hold, must, ◌or_no◌}
use Rattle.paper.specs.Numbers.{signed, fixed, v64, number}
use Rattle.paper.specs.Ledger.{Element, flag, whole, float, link, State}
use Rattle.paper.specs.Rules.{bool_rules, link?, link_rules}
use Rattle.paper.specs.File.{whole_of, element}
use Rattle.laws.specs.Laws.{not-got, bind_inv}
use Rattle.values.specs.Items.{linked, at_most}

-- ── the number of an element ──

unfoldable pub bare : ℕ → Reader ℕ
bare k =
    when nat_eq k 6 then
    fixed 1 else
    when leb k 11 then
    (when ltb (k - 7) 4 then fixed (2 ^ (k - 7)) else v64) else
    when leb k 13 then
    fixed (4 * (k - 11)) else
    linked (at_most (2 ^ 63 - 1))

unfoldable pub bound_of : ℕ → ℕ
bound_of k =
    when nat_eq k 6 then
    256 else
    when leb k 11 then
    (when ltb (k - 7) 4 then 256 ^ (2 ^ (k - 7)) else 2 ^ 64) else
    when leb k 13 then
    256 ^ (4 * (k - 11)) else
    2 ^ 63

-- ── what it stands for ──

unfoldable pub whole_made : ℕ → ℕ → ℤ
whole_made k n = when nat_lt (k - 7) 4 then signed (2 ^ (k - 7)) n else signed 8 n

unfoldable pub made : ℕ → ℕ → Element
made k n =
    when nat_eq k 6 then
    flag (n == 255) else
    when leb k 11 then
    whole (whole_made k n) else
    when leb k 13 then
    float (4 * (k - 11)) n else
    link n

-- the numbers of strings, and of objects of the type that k names, can be stored
pub record Linkable (s : State) (k : ℕ) : Type 0 where
  pub below : 14 ≤ k → (n : ℕ) → link? s k n ≡ true → n < 2 ^ 63

-- ── an element that is read has such a number ──

pub record Stands (k : ℕ) (f : List ℕ) (at : ℕ) (e : Element) (p : ℕ) : Type 0 where
  pub number : ℕ
  pub reads : bare k f at ≡ got number p
  pub is : made k number ≡ e

-- what was held to a rule was read, and keeps it
ruled-inv :
    {A : Type 0} (r : Reader A) (ok : A → Bool) (why : ℕ) (f : List ℕ) (at : ℕ) (v : A) (p : ℕ)
    → must r (λ a. (ok a or_no why) ∷ []) f at ≡ got v p → (r f at ≡ got v p) × (ok v ≡ true)
unfolding must
ruled-inv {A} r ok why f at v p q = go (r f at) refl q
  where
    by : (a : A) (e : ℕ) → r f at ≡ got a e → (t : Bool) → ok a ≡ t → hold ((t or_no why) ∷ []) at (got a e) ≡ got v p → (r f at ≡ got v p) × (ok v ≡ true)
    by a e x true t q = let same : a ≡ v = cc q in (x ∙ q, rw same at t)
    by a e x false t q = not-got q

    go : (o : Out A) → r f at ≡ o → and_then o (λ a e. hold ((ok a or_no why) ∷ []) at (got a e)) ≡ got v p → (r f at ≡ got v p) × (ok v ≡ true)
    go (got a e) x q = by a e x (ok a) refl q
    go (Out.no n m) x q = not-got q

-- what was turned into another value was read
turned-inv :
    {A B : Type 0} (r : Reader A) (g : A → B) (f : List ℕ) (at : ℕ) (v : B) (p : ℕ) → (r >>= λ a. give (g a)) f at ≡ got v p
    → (a : A) × (r f at ≡ got a p) × (g a ≡ v)
unfolding give
turned-inv r g f at v p q =
    let B = bind_inv r (λ a. give (g a)) f at v p q in
    let z : B.next ≡ p = cc B.rest in
    (B.value, B.first ∙ ap (λ (n : ℕ). got B.value n) z, cc B.rest)

module _ (s : State) (k : ℕ) (f : List ℕ) (at : ℕ) (e : Element) (p : ℕ) where
  stands-whole : (whole_of (k - 7) >>= λ v. give (whole v)) f at ≡ got e p → (n : ℕ) × ((when ltb (k - 7) 4 then fixed (2 ^ (k - 7)) else v64) f at ≡ got n p) × (whole (whole_made k n) ≡ e)
  unfolding whole_of whole_made when◌then◌else◌
  stands-whole q =
      let (v, x, y) = turned-inv (whole_of (k - 7)) whole f at e p q in
      let (n, a, b) = go (nat_lt (k - 7) 4) v x in
      (n, a, ap whole b ∙ y)
    where
      go :
          (t : Bool) (v : ℤ)
          → (when t then (fixed (2 ^ (k - 7)) >>= λ n. give (signed (2 ^ (k - 7)) n)) else (v64 >>= λ n. give (signed 8 n))) f at ≡ got v p
          → (n : ℕ) × ((when t then fixed (2 ^ (k - 7)) else v64) f at ≡ got n p) × ((when t then signed (2 ^ (k - 7)) n else signed 8 n) ≡ v)
      go true v x = turned-inv (fixed (2 ^ (k - 7))) (signed (2 ^ (k - 7))) f at v p x
      go false v x = turned-inv v64 (signed 8) f at v p x

  stands-link : Linkable s k → 13 < k → (number (link_rules s k) >>= λ n. give (link n)) f at ≡ got e p → (n : ℕ) × (linked (at_most (2 ^ 63 - 1)) f at ≡ got n p) × (link n ≡ e)
  unfolding number link_rules linked at_most must
  stands-link L h q =
      let (n, x, y) = turned-inv (number (link_rules s k)) link f at e p q in
      let (a, t) = ruled-inv v64 (link? s k) 14 f at n p x in
      (n, rw (a, le-leb n (2 ^ 63 - 1) (omega (arith, L.below h n t))), y)

  -- an annotation has two numbers
  pub element-stands : nat_eq k 5 ≡ false → Linkable s k → element s k f at ≡ got e p → Stands k f at e p
  unfolding element bare made when◌then◌else◌ bool_rules
  element-stands one L q = go (k == 6) refl (nat_le k 11) refl (nat_le k 13) refl (rw one at q)
    where
      go :
          (x : Bool) → (k == 6) ≡ x → (y : Bool) → nat_le k 11 ≡ y → (z : Bool) → nat_le k 13 ≡ z
          → (when x then (must (fixed 1) bool_rules >>= λ b. give (flag (b == 255))) else
          when y then (whole_of (k - 7) >>= λ v. give (whole v)) else
          when z then (fixed (4 * (k - 11)) >>= λ n. give (float (4 * (k - 11)) n)) else (number (link_rules s k) >>= λ n. give (link n))) f at ≡ got e p
          → Stands k f at e p
      go true t₁ y t₂ z t₃ q =
          let (b, x, w) = turned-inv (must (fixed 1) bool_rules) (λ b. flag (b == 255)) f at e p q in
          let (a, t) = ruled-inv (fixed 1) (λ b. (b == 0) || b == 255) 13 f at b p x in
          record { number = b; reads = rw t₁ a; is = rw t₁ w }
      go false t₁ true t₂ z t₃ q =
          let (n, a, w) = stands-whole q in
          record { number = n; reads = rw (t₁, t₂) a; is = rw (t₁, t₂) w }
      go false t₁ false t₂ true t₃ q =
          let (n, a, w) = turned-inv (fixed (4 * (k - 11))) (float (4 * (k - 11))) f at e p q in
          record { number = n; reads = rw (t₁, t₂, t₃) a; is = rw (t₁, t₂, t₃) w }
      go false t₁ false t₂ false t₃ q =
          let (n, a, w) = stands-link L (leb-false k 13 t₃) q in
          record { number = n; reads = rw (t₁, t₂, t₃) a; is = rw (t₁, t₂, t₃) w }

-- ── by the kinds that code tells apart ──

module _ (k : ℕ) (h : 13 < k) where
  pub bare-link : bare k ≡ linked (at_most (2 ^ 63 - 1))
  unfolding bare when◌then◌else◌
  bare-link = rw (ne_eqb k 6 (λ e. omega arith), lt-leb k 11 (omega arith), lt-leb k 13 h)

  pub bound-link : bound_of k ≡ 2 ^ 63
  unfolding bound_of when◌then◌else◌
  bound-link = rw (ne_eqb k 6 (λ e. omega arith), lt-leb k 11 (omega arith), lt-leb k 13 h)

  pub made-link : (n : ℕ) → made k n ≡ link n
  unfolding made when◌then◌else◌
  made-link n = rw (ne_eqb k 6 (λ e. omega arith), lt-leb k 11 (omega arith), lt-leb k 13 h)

pub made-whole : (k n : ℕ) → 6 < k → k < 12 → made k n ≡ whole (whole_made k n)
unfolding made when◌then◌else◌
made-whole k n h l = rw (ne_eqb k 6 (λ e. omega arith), le-leb k 11 (omega arith))

pub whole-8 : (k n : ℕ) → 9 < k → whole_made k n ≡ signed 8 n
unfolding whole_made when◌then◌else◌
whole-8 k n h =
    elim (dec_le k 10) [
      | yes d ↦ (let is : k ≡ 10 = omega arith in rw is)
      | no d ↦ rw (le-ltb (k - 7) 4 (omega (arith, lt_of_not-le d)))
    ]

past : {j k : ℕ} → j ≤ k → (k ≢ j) → j < k
past h z = omega arith

-- what is left of the listed kinds once those of numbers are told apart
pub links-only :
    (k : ℕ) → 8 ≤ k → (k ≢ 8) → ((k ≡ 9) ⊎ (k ≡ 12) → ⊥) → ((k ≡ 10) ⊎ (k ≡ 13) → ⊥) → (k ≢ 11) → 13 < k
links-only k h b c d e =
    let on : 11 ≤ k = past (past (past h b) (λ q. c (inl q))) (λ q. d (inl q)) in
    past (past (past on e) (λ q. c (inr q))) (λ q. d (inr q))

-- a bool and i8 are one byte
pub bare-byte : (k : ℕ) → 6 ≤ k → k < 8 → (bare k ≡ fixed 1) × (bound_of k ≡ 256)
unfolding bare bound_of when◌then◌else◌
bare-byte k h l =
    elim (dec_le k 6) [
      | yes d ↦ (let is : k ≡ 6 = omega arith in rw is (refl, refl))
      | no d ↦ (let is : k ≡ 7 = omega (arith, lt_of_not-le d) in rw is (refl, refl))
    ]
