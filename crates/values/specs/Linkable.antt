-- When the numbers of strings and of objects are below a bound, so that a column can store them. Assumes nothing.
use Rattle.std.specs.Prelude.{◌≡◌, ℕ, suc, ◌+◌, ◌-◌, ◌^◌, ◌<◌, ◌≤◌, Bool, true, false, ◌&&◌, ◌||◌, ltb, List, [], ◌∷◌, length, ◌==◌, nat_le, nat_lt, slice_index, refl}
use Rattle.std.proofs.Common.{◌∙◌, arith, leb-true, ltb-true, eqb-true}
use Rattle.std.proofs.lemmas.Bool.{eqb-false}
use Rattle.paper.specs.Reader.{when◌then◌else◌}
use Rattle.paper.specs.Lists.{any, all}
use Rattle.paper.specs.Ledger.{Range, State, of?, holds?, object?}
use Rattle.paper.specs.Rules.{element_kind?, link?}
use Rattle.laws.specs.Bools.{not_so, and_split}
use Rattle.values.specs.Listed.{listed-object, other-single}
use Rattle.values.specs.Items.{in_ranges, Known}
use Rattle.values.specs.Bare.{Linkable}

or_split : {X : Type 0} (x y : Bool) → (x ≡ true → X) → (y ≡ true → X) → (x || y) ≡ true → X
or_split true y f g h = f refl
or_split false y f g h = g h

-- it is enough that strings and objects are few
pub linkable : (s : State) (k : ℕ) → length s.strings < 2 ^ 63 → ((n : ℕ) → object? s (k - 32) n ≡ true → n < 2 ^ 63) → Linkable s k
unfolding link? when◌then◌else◌
linkable s k few small = record { below = λ h n. go (k == 14) n }
  where
    go : (b : Bool) (n : ℕ) → (when b then nat_le n (length s.strings) else (n == 0 || object? s (k - 32) n)) ≡ true → n < 2 ^ 63
    go true n t = omega (arith, leb-true n (length s.strings) t)
    go false n t = or_split (n == 0) (object? s (k - 32) n) (λ z. omega (arith, eqb-true n 0 z)) (small n) t

-- objects that lie in the ranges of a log which ends below a bound
pub objects-below :
    (bound t n : ℕ) (log : List Range) → all (λ (r : Range). ltb (r.first + r.count) bound) log ≡ true → any (holds? t n) log ≡ true → n < bound
unfolding any all holds?
objects-below bound t n [] h q = not_so q
objects-below bound t n (r ∷ log) h q =
    let (a, b) = and_split (nat_lt (r.first + r.count) bound) _ h in
    or_split (holds? t n r) (any (holds? t n) log)
    (λ z. let (_, y) = and_split (of? t r) _ z in
    let (_, l) = and_split (nat_le (r.first + 1) n) _ y in
    omega (arith, leb-true n (r.first + r.count) l, ltb-true (r.first + r.count) bound a))
    (objects-below bound t n log b)
    q

-- the same where they are given by two lists
ranges-below : (bound n : ℕ) (first last : List ℕ) → ((i : ℕ) → slice_index last i < bound) → in_ranges first last n ≡ true → n < bound
unfolding in_ranges
ranges-below bound n [] last h q = not_so q
ranges-below bound n (a ∷ first) [] h q = not_so q
ranges-below bound n (a ∷ first) (b ∷ last) h q =
    or_split (nat_le (a + 1) n && nat_le n b) (in_ranges first last n)
    (λ z. let (_, l) = and_split (nat_le (a + 1) n) _ z in omega (arith, leb-true n b l, h 0))
    (ranges-below bound n first last (λ i. h (suc i)))
    q

pub known-linkable :
    {s : State} {k strings : ℕ} {pools first last : List ℕ} → Known s k strings pools first last → element_kind? k ≡ true → strings < 2 ^ 63
    → ((i : ℕ) → slice_index last i < 2 ^ 63) → Linkable s k
unfolding link? when◌then◌else◌
known-linkable {s} {k} {strings} {pools} {first} {last} K listed few small = record { below = λ h n. go h (k == 14) refl n }
  where
    go : 14 ≤ k → (b : Bool) → (k == 14) ≡ b → (n : ℕ) → (when b then nat_le n (length s.strings) else (n == 0 || object? s (k - 32) n)) ≡ true → n < 2 ^ 63
    go h true t n q = omega (arith, leb-true n (length s.strings) q, K.strings-are)
    go h false t n q =
        let big = listed-object k (other-single k listed (λ e. omega arith)) h (eqb-false k 14 t) in
        or_split (n == 0) (object? s (k - 32) n) (λ z. omega (arith, eqb-true n 0 z))
        (λ z. ranges-below (2 ^ 63) n first last small (K.objects-are big n ∙ z))
        q
