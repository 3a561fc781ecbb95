-- What the elements of a chunk are held to, by numbers alone: the number of strings, for each of them the objects of the base type
-- of that name, and the ranges of a type's objects. Assumes nothing.
use Rattle.std.specs.Prelude.{◌≡◌, ℕ, zero, suc, ◌+◌, ◌-◌, ◌*◌, ◌^◌, ◌<◌, ◌≤◌, Bool, true, false, ◌&&◌, ◌||◌, ltb, leb, List, [], ◌∷◌, length, ◌==◌, nat_eq, nat_le, nat_lt, slice_index}
use Rattle.std.proofs.Math.Path.{refl, ap}
use Rattle.std.proofs.Common.{sym, arith}
use Rattle.std.proofs.Math.Nat.{lt_of_not-le}
use Rattle.std.proofs.Math.Decide.{dec_le}
use borrow.Author.Tests.{leb-false, eqb-true, eqb-false, le-leb, lt-leb, lt-ltb, ne_eqb}
use Rattle.paper.specs.Reader.{when◌then◌else◌, Reader, ◌>>=◌, give, must, ◌or_no◌, repeat}
use Rattle.paper.specs.Numbers.{signed, fixed, v64, number}
use Rattle.paper.specs.Ledger.{flag, whole, float, link, annotation, State, object?}
use Rattle.paper.specs.Rules.{element_kind?, bool_rules, link?, link_rules, annotation?, annotation_rules}
use Rattle.paper.specs.File.{whole_of, two_numbers, element}
use Rattle.numbers.specs.Cursors.{Outcome, out_of}
use Rattle.values.specs.Listed.{listed-object, other-single, Fixed, width_of}
use Rattle.values.specs.Pass.{forget, Passed, passed-as, Alike, alike_then, alike-back, alike_turned, alike-must, alike-repeat}
use Rattle.values.specs.Annotations.{placed?, annotated}

-- ── ranges of objects: the i-th begins behind object first_i and ends with object last_i ──

unfoldable pub in_ranges : List ℕ → List ℕ → ℕ → Bool
in_ranges [] last n = false
in_ranges (a ∷ first) [] n = false
in_ranges (a ∷ first) (b ∷ last) n = nat_le (a + 1) n && nat_le n b || in_ranges first last n

-- object n lies in the i-th range
unfoldable pub in_range : List ℕ → List ℕ → ℕ → ℕ → Bool
in_range first last i n = nat_le (slice_index first i + 1) n && nat_le n (slice_index last i)

pub range-found :
    (first last : List ℕ) (i n : ℕ) → length first ≡ length last → i < length first → in_range first last i n ≡ true
    → in_ranges first last n ≡ true
unfolding in_ranges in_range
range-found [] last i n e h t = absurd (omega arith)
range-found (a ∷ first) [] i n e h t = absurd (omega arith)
range-found (a ∷ first) (b ∷ last) zero n e h t = rw t
range-found (a ∷ first) (b ∷ last) (suc i) n e h t =
    let more = range-found first last i n (omega arith) (omega arith) t in
    go (nat_le (a + 1) n && nat_le n b) more
  where
    go : (x : Bool) → in_ranges first last n ≡ true → (x || in_ranges first last n) ≡ true
    go true q = refl
    go false q = q

pub range_none :
    (first last : List ℕ) (n : ℕ) → ((i : ℕ) → i < length first → in_range first last i n ≡ false) → in_ranges first last n ≡ false
unfolding in_ranges in_range
range_none [] last n h = refl
range_none (a ∷ first) [] n h = refl
range_none (a ∷ first) (b ∷ last) n h = rw (h 0 (omega arith)) (range_none first last n (λ i lt. h (suc i) (omega arith)))

-- ── a number that a string or an object has ──

unfoldable pub linked : (ℕ → Bool) → Reader ℕ
linked ok = number (λ n. (ok n or_no 14) ∷ [])

unfoldable pub at_most : ℕ → ℕ → Bool
at_most most n = nat_le n most

unfoldable pub some_object : List ℕ → List ℕ → ℕ → Bool
some_object first last n = n == 0 || in_ranges first last n

-- ── an element of kind k ──

unfoldable pub item : ℕ → List ℕ → List ℕ → List ℕ → ℕ → Reader ℕ
item strings pools first last k =
    when nat_eq k 5 then
    annotated (placed? pools) else
    when nat_eq k 6 then
    must (fixed 1) bool_rules else
    when leb k 11 then
    (when ltb (k - 7) 4 then fixed (2 ^ (k - 7)) else v64) else
    when leb k 13 then
    fixed (4 * (k - 11)) else
    when nat_eq k 14 then
    linked (at_most strings) else
    linked (some_object first last)

-- the numbers are those of the state: of its strings, of the objects that an annotation may name, and of those of the type that k names
pub record Known (s : State) (k strings : ℕ) (pools first last : List ℕ) : Type 0 where
  pub strings-are : length s.strings ≡ strings
  pub pools-are : k ≡ 5 → (m n : ℕ) → placed? pools m n ≡ annotation? s m n
  pub objects-are : 32 ≤ k → (n : ℕ) → in_ranges first last n ≡ object? s (k - 32) n

alike-whole : (k : ℕ) {f : List ℕ} → Alike (whole_of (k - 7)) (when ltb (k - 7) 4 then fixed (2 ^ (k - 7)) else v64) f
unfolding whole_of when◌then◌else◌
alike-whole k {f} = go (nat_lt (k - 7) 4)
  where
    go :
        (b : Bool)
        → Alike (when b then (fixed (2 ^ (k - 7)) >>= λ n. give (signed (2 ^ (k - 7)) n)) else (v64 >>= λ n. give (signed 8 n)))
        (when b then fixed (2 ^ (k - 7)) else v64) f
    go true = alike_turned (fixed (2 ^ (k - 7))) _
    go false = alike_turned v64 _

module _ {s : State} {k strings : ℕ} {pools first last : List ℕ} (K : Known s k strings pools first last) (listed : element_kind? k ≡ true) where
  pub link-is : 13 < k → (n : ℕ) → link? s k n ≡ (when nat_eq k 14 then at_most strings n else some_object first last n)
  unfolding link? at_most some_object when◌then◌else◌
  link-is h n = go (k == 14) refl
    where
      go :
          (b : Bool) → (k == 14) ≡ b
          → (when b then nat_le n (length s.strings) else (n == 0 || object? s (k - 32) n))
          ≡ (when b then nat_le n strings else (n == 0 || in_ranges first last n))
      go true t = rw K.strings-are
      go false t = rw (K.objects-are (listed-object k (other-single k listed (λ q. omega arith)) h (eqb-false k 14 t)) n)

  module _ {f : List ℕ} where
    alike-link : 13 < k → Alike (number (link_rules s k)) (when nat_eq k 14 then linked (at_most strings) else linked (some_object first last)) f
    unfolding link_rules linked number when◌then◌else◌
    alike-link h = go (k == 14) (λ n. link-is h n)
      where
        go :
            (b : Bool) → ((n : ℕ) → link? s k n ≡ (when b then at_most strings n else some_object first last n))
            → Alike (must v64 (λ n. (link? s k n or_no 14) ∷ []))
            (when b then must v64 (λ n. (at_most strings n or_no 14) ∷ []) else must v64 (λ n. (some_object first last n or_no 14) ∷ [])) f
        go true q = alike-must v64 _ _ (λ n. ap (λ (t : Bool). (t or_no 14) ∷ []) (q n))
        go false q = alike-must v64 _ _ (λ n. ap (λ (t : Bool). (t or_no 14) ∷ []) (q n))

    alike-noted : k ≡ 5 → Alike (must two_numbers (annotation_rules s) >>= λ p. give (annotation p.0 p.1)) (annotated (placed? pools)) f
    unfolding annotated annotation_rules
    alike-noted is =
        alike_then (alike_turned (must two_numbers (λ p. (annotation? s p.0 p.1 or_no 14) ∷ [])) _)
        (alike_then (alike-must two_numbers _ _ (λ p. ap (λ (t : Bool). (t or_no 14) ∷ []) (sym (K.pools-are is p.0 p.1))))
        (alike-back (alike_turned (must two_numbers (λ p. (placed? pools p.0 p.1 or_no 14) ∷ [])) _)))

    -- an element is read alike by the definitions and by the numbers
    pub alike-item : Alike (element s k) (item strings pools first last k) f
    unfolding element item when◌then◌else◌
    alike-item = go₀ (k == 5) refl (go₁ (k == 6) (nat_le k 11) (nat_le k 13) refl)
      where
        Tests : Bool → Bool → Bool → Type 0
        Tests = λ x y z. Alike
            (when x then (must (fixed 1) bool_rules >>= λ b. give (flag (b == 255))) else
            when y then (whole_of (k - 7) >>= λ v. give (whole v)) else
            when z then (fixed (4 * (k - 11)) >>= λ n. give (float (4 * (k - 11)) n)) else (number (link_rules s k) >>= λ n. give (link n)))
            (when x then must (fixed 1) bool_rules else
            when y then (when ltb (k - 7) 4 then fixed (2 ^ (k - 7)) else v64) else
            when z then fixed (4 * (k - 11)) else
            when k == 14 then linked (at_most strings) else linked (some_object first last)) f

        go₀ :
            (b : Bool) → (k == 5) ≡ b → Tests (k == 6) (nat_le k 11) (nat_le k 13)
            → Alike
            (when b then (must two_numbers (annotation_rules s) >>= λ p. give (annotation p.0 p.1)) else
            when k == 6 then (must (fixed 1) bool_rules >>= λ b. give (flag (b == 255))) else
            when nat_le k 11 then (whole_of (k - 7) >>= λ v. give (whole v)) else
            when nat_le k 13 then (fixed (4 * (k - 11)) >>= λ n. give (float (4 * (k - 11)) n)) else (number (link_rules s k) >>= λ n. give (link n)))
            (when b then annotated (placed? pools) else
            when k == 6 then must (fixed 1) bool_rules else
            when nat_le k 11 then (when ltb (k - 7) 4 then fixed (2 ^ (k - 7)) else v64) else
            when nat_le k 13 then fixed (4 * (k - 11)) else
            when k == 14 then linked (at_most strings) else linked (some_object first last)) f
        go₀ true t others = alike-noted (eqb-true k 5 t)
        go₀ false t others = others

        go₁ : (x y z : Bool) → nat_le k 13 ≡ z → Tests x y z
        go₁ true y z t = alike_turned (must (fixed 1) bool_rules) _
        go₁ false true z t = alike_then (alike_turned (whole_of (k - 7)) _) (alike-whole k)
        go₁ false false true t = alike_turned (fixed (4 * (k - 11))) _
        go₁ false false false t = alike_then (alike_turned (number (link_rules s k)) _) (alike-link (leb-false k 13 t))

-- ── a run of elements ──

-- the answer is that of m elements of kind k, for every state that has these numbers
pub record Checked (m k strings : ℕ) (pools first last f : List ℕ) (at : ℕ) (n : Outcome ℕ) : Type 0 where
  pub passes : Passed (repeat m (item strings pools first last k)) f at n
  pub says : (s : State) → Known s k strings pools first last → forget (out_of n) ≡ forget (repeat m (element s k) f at)

-- by the reader that code chose for the kind
pub checked-by :
    {m k strings : ℕ} {pools first last f : List ℕ} {at : ℕ} {n : Outcome ℕ} → element_kind? k ≡ true → (q : Reader ℕ)
    → item strings pools first last k ≡ q → Passed (repeat m q) f at n → Checked m k strings pools first last f at n
checked-by {m} {k} {strings} {pools} {first} {last} {f} {at} {n} listed q is P =
    let R : Passed (repeat m (item strings pools first last k)) f at n = rw is P in
    record { passes = R; says = λ s K. (passed-as R (alike-repeat (alike-item K listed) m)).says }

-- the reader of a kind, as code chooses it
module _ (strings : ℕ) (pools first last : List ℕ) where
  pub item-annotation : (k : ℕ) → k ≡ 5 → item strings pools first last k ≡ annotated (placed? pools)
  unfolding item when◌then◌else◌
  item-annotation k h = rw h

  pub item-bool : (k : ℕ) → k ≡ 6 → item strings pools first last k ≡ must (fixed 1) bool_rules
  unfolding item when◌then◌else◌
  item-bool k h = rw h

  pub item-v64 : (k : ℕ) → k ≡ 11 → item strings pools first last k ≡ v64
  unfolding item when◌then◌else◌
  item-v64 k h = rw h

  pub item-string : (k : ℕ) → k ≡ 14 → item strings pools first last k ≡ linked (at_most strings)
  unfolding item when◌then◌else◌
  item-string k h = rw h

  pub item-object : (k : ℕ) → 32 ≤ k → item strings pools first last k ≡ linked (some_object first last)
  unfolding item when◌then◌else◌
  item-object k h =
      rw (ne_eqb k 5 (λ e. omega arith), ne_eqb k 6 (λ e. omega arith), lt-leb k 11 (omega arith), lt-leb k 13 (omega arith), ne_eqb k 14 (λ e. omega arith))

  pub item-fixed : (k : ℕ) → Fixed k → item strings pools first last k ≡ fixed (width_of k)
  unfolding item width_of when◌then◌else◌
  item-fixed k h =
      rw (ne_eqb k 5 (λ e. omega (arith, h.low)), ne_eqb k 6 (λ e. omega (arith, h.low)))
      (elim (dec_le k 10) [
        | yes d ↦ simp (le-leb k 11 (omega arith), le-leb k 10 d, lt-ltb (k - 7) 4 (omega arith))
        | no d ↦
            (let big = lt_of_not-le d in
            simp (lt-leb k 11 (omega (arith, h.not-v64)), lt-leb k 10 big, le-leb k 13 h.high))
      ])
