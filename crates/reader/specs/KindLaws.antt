-- The ways out of the readers of kinds, on plain values; and what a caller learns of a kind. Assumes nothing.
use Rattle.std.specs.Prelude.{Ok, Err, ◌≡◌, Bool, ◌&&◌, ◌||◌, List, [], map, ◌⊎◌, ℕ, ◌-◌, ◌^◌, ◌≤◌, ◌<◌, min, length}
use Rattle.std.proofs.Math.Path.{refl, ap}
use Rattle.std.proofs.Common.{sym, ◌∙◌, inl, inr, arith}
use Rattle.std.proofs.Math.Bool.{true, false}
use Rattle.std.proofs.Math.Dec.{leb, ltb, eqb}
use Rattle.std.proofs.lemmas.List.{length-map}
use borrow.Author.Tests.{le-leb, lt-leb, lt-ltb, le-ltb, eq-eqb, ne_eqb, leb-true, ltb-true, ltb-false, eqb-false}
use Rattle.paper.specs.Reader.{when◌then◌else◌, Reader, Out, got, no, and_then, turned, ◌>>=◌, give, must, repeat}
use Rattle.paper.specs.Numbers.{signed, put_fixed, fixed, v64, number}
use Rattle.paper.specs.Ledger.{Kind, constant, plain, array, many, mapping, State}
use Rattle.paper.specs.Rules.{single_kind?, element_kind?, kind?, kind_rules, element_kind_rules, types_rules, any_type, a_type?, noted}
use Rattle.paper.specs.File.{small, whole_of, kind}
use Rattle.laws.specs.Codes.{fixed-length}
use Rattle.laws.specs.Packed.{packed, packed-back}
use Rattle.table.specs.View.{kind_from}
use Rattle.numbers.specs.Cursors.{Read, was-got, Outcome, was-refused}
use Rattle.numbers.specs.declared.Cursor.{Cursor}
use Rattle.numbers.specs.declared.Refusal.{Refusal}
use Rattle.reader.specs.declared.kinds.Kind.{Kind as KindRow}
use Rattle.reader.specs.Kinds.{
  named_by,
  bits_of,
  constant_of,
  array_of,
  many_of,
  mapping_of,
  packed_of,
  kind_in,
  KindReadBy,
  KindReads,
}
use Rattle.reader.specs.Runs.{times-many}
use Rattle.numbers.specs.Ruled.{read_no, read-bad, read-got, ruled-is}
use Rattle.numbers.specs.Faults.{number_of}
use Rattle.numbers.specs.declared.Fault.TheVariants as fault

differ : {X : Type 0} → ◌≡◌ {A = ℕ} 0 1 → X
differ z = absurd (omega arith)

-- ── which numbers name a type ──

module _ (n k : ℕ) where
  pub named-loose : (b : Bool) → b ≡ false → true ≡ named_by b n k
  unfolding named_by
  named-loose b e = rw e

  pub named-low : (b : Bool) → k < 32 → true ≡ named_by b n k
  unfolding named_by
  named-low false lt = refl
  named-low true lt = rw (lt-ltb k 32 lt)

  pub named-high : (b : Bool) → b ≡ true → 32 ≤ k → ltb (k - 32) n ≡ named_by b n k
  unfolding named_by
  named-high b e le = rw (e, le-ltb k 32 le)

-- the two readings of a block's kinds: while types may still be declared, and when all are known
pub named-any : (n : ℕ) → named_by false n ≡ any_type
unfolding named_by
named-any n = refl

pub named-types : (s : State) → named_by true (length s.type_names) ≡ a_type? s
unfolding named_by a_type?
named-types s = refl

-- ── the bits of a constant ──

module _ {f : List ℕ} {at : ℕ} {a : Outcome ℕ} where
  pub bits-fixed : {b : ℕ} (k w : ℕ) → k < 4 → w ≡ 2 ^ k → b ≤ 2 ^ 64 → Read (fixed w) b f at a → Read (bits_of k) (2 ^ 64) f at a
  unfolding bits_of when◌then◌else◌
  bits-fixed k w lt is le R =
      record { says = R.says ∙ rw (lt-ltb k 4 lt) (ap (λ (x : ℕ). fixed x f at) is); inside = R.inside; below = omega (arith, R.below) }

  pub bits-v64 : (k : ℕ) → 4 ≤ k → Read v64 (2 ^ 64) f at a → Read (bits_of k) (2 ^ 64) f at a
  unfolding bits_of when◌then◌else◌
  bits-v64 k le R = record { says = R.says ∙ rw (le-ltb k 4 le); inside = R.inside; below = R.below }

-- ── which numbers are listed ──

outside : (lo k hi : ℕ) → (lo ≤ k → k ≤ hi → ⊥) → (leb lo k && leb k hi) ≡ false
outside lo k hi out = go (leb lo k) refl (leb k hi) refl
  where
    go : (a : Bool) → leb lo k ≡ a → (b : Bool) → leb k hi ≡ b → (a && b) ≡ false
    go true p true q = absurd (out (leb-true lo k p) (leb-true k hi q))
    go true p false q = refl
    go false p b q = refl

-- nothing follows the number
pub record Alone (k : ℕ) : Type 0 where
  pub no-constant : 4 < k
  pub no-array : k ≡ 15 → ⊥
  pub no-many : 17 ≤ k → k ≤ 19 → ⊥
  pub no-map : k ≡ 20 → ⊥

module _ (k : ℕ) where
  pub low-alone : 5 ≤ k → k ≤ 14 → Alone k
  low-alone lo hi =
      record { no-constant = omega arith; no-array = λ e. omega arith; no-many = λ l h. omega arith; no-map = λ e. omega arith }

  pub high-alone : 21 ≤ k → Alone k
  high-alone lo =
      record { no-constant = omega arith; no-array = λ e. omega arith; no-many = λ l h. omega arith; no-map = λ e. omega arith }

  gap-alone : k ≡ 16 → Alone k
  gap-alone is =
      record { no-constant = omega arith; no-array = λ e. omega arith; no-many = λ l h. omega arith; no-map = λ e. omega arith }

  pub element-low : 5 ≤ k → k ≤ 14 → element_kind? k ≡ true
  unfolding element_kind? single_kind?
  element-low lo hi = go (eqb k 5) refl
    where
      go : (b : Bool) → eqb k 5 ≡ b → (b || (leb 6 k && leb k 14 || leb 32 k)) ≡ true
      go true five = refl
      go false other = rw (le-leb 6 k (omega (arith, eqb-false k 5 other)), le-leb k 14 hi)

  pub element-type : 32 ≤ k → element_kind? k ≡ true
  unfolding element_kind? single_kind?
  element-type le = rw (ne_eqb k 5 (λ e. omega arith), outside 6 k 14 (λ l h. omega arith), le-leb 32 k le)

  pub element-gap : (5 ≤ k → k ≤ 14 → ⊥) → k < 32 → element_kind? k ≡ false
  unfolding element_kind? single_kind?
  element-gap gap lt =
      rw (ne_eqb k 5 (λ e. gap (omega arith) (omega arith)), outside 6 k 14 (λ l h. gap (omega arith) h), lt-leb 32 k lt)

  listed-constant : k ≤ 4 → kind? k ≡ true
  unfolding kind?
  listed-constant le = rw (le-leb k 4 le)

  listed-element : 4 < k → element_kind? k ≡ true → kind? k ≡ true
  unfolding kind?
  listed-element lt is = rw (lt-leb k 4 lt, is)

  listed-array : k ≡ 15 → kind? k ≡ true
  unfolding kind?
  listed-array is = rw (lt-leb k 4 (omega arith), element-gap (λ l h. omega arith) (omega arith), eq-eqb k 15 is)

  listed-many : 17 ≤ k → k ≤ 19 → kind? k ≡ true
  unfolding kind?
  listed-many lo hi =
      rw (lt-leb k 4 (omega arith), element-gap (λ l h. omega arith) (omega arith), ne_eqb k 15 (λ e. omega arith), le-leb 17 k lo, le-leb k 19 hi)

  listed-map : k ≡ 20 → kind? k ≡ true
  unfolding kind?
  listed-map is =
      rw (
        lt-leb k 4 (omega arith),
        element-gap (λ l h. omega arith) (omega arith),
        ne_eqb k 15 (λ e. omega arith),
        outside 17 k 19 (λ l h. omega arith),
        eq-eqb k 20 is,
      )

  not_listed : Alone k → (5 ≤ k → k ≤ 14 → ⊥) → k < 32 → kind? k ≡ false
  unfolding kind?
  not_listed alone no-element hi =
      rw (
        lt-leb k 4 alone.no-constant,
        element-gap no-element hi,
        ne_eqb k 15 alone.no-array,
        outside 17 k 19 alone.no-many,
        ne_eqb k 20 alone.no-map,
      )

  pub single-gap : k ≡ 16 → kind? k ≡ false
  single-gap is = not_listed (gap-alone is) (λ l h. omega arith) (omega arith)

  pub long-gap : 21 ≤ k → k < 32 → kind? k ≡ false
  long-gap lo hi = not_listed (high-alone lo) (λ l h. omega arith) hi

  -- in neither of two single places
  pub past-gaps : ((k ≡ 5) ⊎ (k ≡ 16) → ⊥) → (5 ≤ k → 6 ≤ k) × (16 ≤ k → 17 ≤ k)
  past-gaps out =
      let not_five : k ≡ 5 → ⊥ = λ e. out (inl e) in
      let not-sixteen : k ≡ 16 → ⊥ = λ e. out (inr e) in
      (λ le. omega arith, λ le. omega arith)

-- ── an element kind ──

module _ (named : ℕ → Bool) {f : List ℕ} {at : ℕ} {a : Outcome ℕ} (read : Read v64 (2 ^ 64) f at a) where
  pub element-no : {e : Refusal} → a ≡ Err e → Read (number (element_kind_rules named)) (2 ^ 64) f at (Err e)
  unfolding number
  element-no is = read_no read (element_kind_rules named) (omega arith) is

  module _ {k : ℕ} {c : Cursor} (is : a ≡ Ok (k, c)) where
    pub element-got : element_kind? k ≡ true → true ≡ named k → Read (number (element_kind_rules named)) (2 ^ 64) f at (Ok (k, c))
    unfolding number element_kind_rules
    element-got x y = read-got read (element_kind_rules named) (was-got read is).below is (rw (x, ← y))

    pub element-bad : element_kind? k ≡ false → Read (number (element_kind_rules named)) (2 ^ 64) f at (Err (record { fault = fault.Kind; place = at }))
    unfolding number element_kind_rules
    element-bad x = read-bad read (element_kind_rules named) (omega arith) is (rw x)

    pub element-unnamed : element_kind? k ≡ true → false ≡ named k → Read (number (element_kind_rules named)) (2 ^ 64) f at (Err (record { fault = fault.Kind; place = at }))
    unfolding number element_kind_rules
    element-unnamed x y = read-bad read (element_kind_rules named) (omega arith) is (rw (x, ← y))

-- ── the kind of three numbers ──

-- the bytes of a constant's value once it is read; a v64 has eight
abbrev pub width_of : ℕ → ℕ
width_of k = when ltb k 4 then 2 ^ k else 8

module _ (k a e : ℕ) where
  pub kind-constant : k ≤ 4 → kind_from k a e ≡ constant k (signed (width_of k) a)
  unfolding kind_from when◌then◌else◌
  kind-constant le = go (ltb k 4) refl
    where
      go : (b : Bool) → ltb k 4 ≡ b → kind_from k a e ≡ constant k (signed (when b then 2 ^ k else 8) a)
      go true h = rw (le-leb k 3 (omega (arith, ltb-true k 4 h)))
      go false h = rw (lt-leb k 3 (omega (arith, ltb-false k 4 h)), eq-eqb k 4 (omega (arith, ltb-false k 4 h)))

  pub kind-array : k ≡ 15 → kind_from k a e ≡ array a e
  unfolding kind_from when◌then◌else◌
  kind-array is = rw (lt-leb k 3 (omega arith), ne_eqb k 4 (λ z. omega arith), eq-eqb k 15 is)

  pub kind-many : 17 ≤ k → k ≤ 19 → kind_from k a e ≡ many k e
  unfolding kind_from when◌then◌else◌
  kind-many lo hi =
      rw (lt-leb k 3 (omega arith), ne_eqb k 4 (λ z. omega arith), ne_eqb k 15 (λ z. omega arith), le-leb 17 k lo, le-leb k 19 hi)

  pub kind-mapping : k ≡ 20 → kind_from k a e ≡ mapping (put_fixed a e)
  unfolding kind_from when◌then◌else◌
  kind-mapping is =
      rw (lt-leb k 3 (omega arith), ne_eqb k 4 (λ z. omega arith), ne_eqb k 15 (λ z. omega arith), outside 17 k 19 (λ l h. omega arith), eq-eqb k 20 is)

  pub kind-plain : Alone k → kind_from k a e ≡ plain e
  unfolding kind_from when◌then◌else◌
  kind-plain alone =
      let lo = alone.no-constant in
      rw (lt-leb k 3 (omega arith), ne_eqb k 4 (λ z. omega arith), ne_eqb k 15 alone.no-array, outside 17 k 19 alone.no-many, ne_eqb k 20 alone.no-map)

-- ── the rows ──

abbrev pub constant_row : ℕ → ℕ → KindRow
constant_row k bits = record { first = k; bits = bits; last = 0 }

abbrev pub array_row : ℕ → ℕ → KindRow
array_row l e = record { first = 15; bits = l; last = e }

abbrev pub map_row : ℕ → ℕ → KindRow
map_row n e = record { first = 20; bits = n; last = e }

-- a kind that is not a constant and has no length
abbrev pub last_row : ℕ → ℕ → KindRow
last_row k e = record { first = k; bits = 0; last = e }

-- ── a kind that ends with a number ──

-- `r` reads the kind, and from `from` on no more than a number, of which `row` makes the answer
module _
    {q : Reader ℕ} {b : ℕ} {f : List ℕ} {from : ℕ} {a : Outcome ℕ} (read : Read q b f from a)
    {r : Reader Kind} {at : ℕ} (on : at ≤ length f → from ≤ length f)
    (row : ℕ → KindRow) (ends : turned noted (r f at) ≡ turned (λ x. kind_in (row x)) (q f from)) where
  ends-no : {e : Refusal} → a ≡ Err e → KindReadBy r f at (Err e)
  ends-no is =
      let R = was-refused read is in
      record { says = sym (ends ∙ ap (turned (λ x. kind_in (row x))) R.says); inside = λ lo. R.inside (on lo); told = tt }

  ends-got : {x : ℕ} {c : Cursor} → a ≡ Ok (x, c) → (row x).first ≤ 32 → KindReadBy r f at (Ok ((row x), c))
  ends-got is low =
      let G = was-got read is in
      record { says = sym (ends ∙ ap (turned (λ x. kind_in (row x))) G.says); inside = λ lo. G.inside (on lo); told = low }

-- a kind g x is given at the end, and `row` stands for what is kept of it
then-give : (g : ℕ → Kind) (row : ℕ → KindRow) → ((x : ℕ) → kind_in (row x) ≡ noted (g x)) → (o : Out ℕ) → turned noted (and_then o (λ x e. got (g x) e)) ≡ turned (λ x. kind_in (row x)) o
then-give g row same (got x e) = ap (λ (k : Kind). got k e) (sym (same x))
then-give g row same (no n p) = refl

-- ── a constant ──

whole_is : (k : ℕ) (f : List ℕ) (at : ℕ) → whole_of k f at ≡ and_then (bits_of k f at) (λ n e. got (signed (width_of k) n) e)
unfolding whole_of bits_of when◌then◌else◌ ◌>>=◌ give
whole_is k f at = go (ltb k 4)
  where
    go :
        (b : Bool)
        → (when b then (fixed (2 ^ k) >>= λ n. give (signed (2 ^ k) n)) else (v64 >>= λ n. give (signed 8 n))) f at
        ≡ and_then ((when b then fixed (2 ^ k) else v64) f at) (λ n e. got (signed (when b then 2 ^ k else 8) n) e)
    go true = refl
    go false = refl

constant-ends : (k : ℕ) → k ≤ 4 → (f : List ℕ) (at : ℕ) → turned noted (constant_of k f at) ≡ turned (λ x. kind_in (constant_row k x)) (bits_of k f at)
unfolding constant_of noted ◌>>=◌ give
constant-ends k le f at = rw (whole_is k f at) (go (bits_of k f at))
  where
    go : (o : Out ℕ) → turned noted (and_then (and_then o (λ n e. got (signed (width_of k) n) e)) (λ v e. got (constant k v) e)) ≡ turned (λ x. kind_in (constant_row k x)) o
    go (got x e) = ap (λ (c : Kind). got c e) (sym (kind-constant k x 0 le))
    go (no n p) = refl

module _ {k : ℕ} {f : List ℕ} {at : ℕ} {a : Outcome ℕ} (read : Read (bits_of k) (2 ^ 64) f at a) (le : k ≤ 4) where
  pub constant-no : {e : Refusal} → a ≡ Err e → KindReadBy (constant_of k) f at (Err e)
  constant-no is = ends-no read (λ lo. lo) (constant_row k) (constant-ends k le f at) is

  pub constant-got : {x : ℕ} {c : Cursor} → a ≡ Ok (x, c) → KindReadBy (constant_of k) f at (Ok (constant_row k x, c))
  constant-got is = ends-got read (λ lo. lo) (constant_row k) (constant-ends k le f at) is (omega arith)

-- ── an array ──

module _ (named : ℕ → Bool) {f : List ℕ} {at : ℕ} {a : Outcome ℕ} (read : Read small 65536 f at a) where
  pub array-no-length : {e : Refusal} → a ≡ Err e → KindReadBy (array_of named) f at (Err e)
  unfolding array_of ◌>>=◌
  array-no-length is =
      let R = was-refused read is in
      record { says = rw R.says; inside = R.inside; told = tt }

  module _ {l : ℕ} {c : Cursor} (is : a ≡ Ok (l, c)) {b : Outcome ℕ} (next : Read (number (element_kind_rules named)) (2 ^ 64) f c.at b) where
    array-ends : turned noted (array_of named f at) ≡ turned (λ x. kind_in (array_row l x)) (number (element_kind_rules named) f c.at)
    unfolding array_of noted ◌>>=◌ give
    array-ends = rw (was-got read is).says (then-give (array l) (array_row l) (λ x. kind-array 15 l x refl) (number (element_kind_rules named) f c.at))

    pub array-no-element : {e : Refusal} → b ≡ Err e → KindReadBy (array_of named) f at (Err e)
    array-no-element none = ends-no next (was-got read is).inside (array_row l) array-ends none

    pub array-got : {e : ℕ} {d : Cursor} → b ≡ Ok (e, d) → KindReadBy (array_of named) f at (Ok (array_row l e, d))
    array-got it = ends-got next (was-got read is).inside (array_row l) array-ends it (omega arith)

-- ── many ──

module _ (named : ℕ → Bool) {k : ℕ} {f : List ℕ} {at : ℕ} {a : Outcome ℕ} (read : Read (number (element_kind_rules named)) (2 ^ 64) f at a) (lo : 17 ≤ k) (hi : k ≤ 19) where
  many-ends : turned noted (many_of named k f at) ≡ turned (λ x. kind_in (last_row k x)) (number (element_kind_rules named) f at)
  unfolding many_of noted ◌>>=◌ give
  many-ends = then-give (many k) (last_row k) (λ x. kind-many k 0 x lo hi) (number (element_kind_rules named) f at)

  pub many-no : {e : Refusal} → a ≡ Err e → KindReadBy (many_of named k) f at (Err e)
  many-no is = ends-no read (λ lo. lo) (last_row k) many-ends is

  pub many-got : {e : ℕ} {c : Cursor} → a ≡ Ok (e, c) → KindReadBy (many_of named k) f at (Ok (last_row k e, c))
  many-got is = ends-got read (λ lo. lo) (last_row k) many-ends is (omega arith)

-- ── a map ──

module _ {f : List ℕ} {at : ℕ} {a : Outcome ℕ} (read : Read v64 (2 ^ 64) f at a) where
  pub types-no : {e : Refusal} → a ≡ Err e → Read (number types_rules) 9 f at (Err e)
  unfolding number
  types-no is = read_no read types_rules (omega arith) is

  module _ {n : ℕ} {c : Cursor} (is : a ≡ Ok (n, c)) where
    pub types-got : 2 ≤ n → n ≤ 8 → Read (number types_rules) 9 f at (Ok (n, c))
    unfolding number types_rules
    types-got lo hi = read-got read types_rules (omega arith) is (rw (le-leb 2 n lo, le-leb n 8 hi))

    pub types-bad : (2 ≤ n → n ≤ 8 → ⊥) → Read (number types_rules) 9 f at (Err (record { fault = fault.Kind; place = at }))
    unfolding number types_rules
    types-bad out = read-bad read types_rules (omega arith) is (rw (outside 2 n 8 out))

-- the number gives back what is kept of the kinds
kept-kinds : (n : ℕ) (ks : List ℕ) → length ks ≡ n → kind_in (map_row n (packed ks)) ≡ noted (mapping ks)
unfolding noted
kept-kinds n ks is = kind-mapping 20 n (packed ks) refl ∙ rw (← is) (ap mapping (packed-back ks))

map-given : (n : ℕ) (o : Out (List ℕ)) → ((ks : List ℕ) (e : ℕ) → o ≡ got ks e → length ks ≡ n) → turned noted (and_then o (λ ks e. got (mapping ks) e)) ≡ turned (λ x. kind_in (map_row n x)) (turned packed o)
map-given n (got ks e) as_many = ap (λ (k : Kind). got k e) (sym (kept-kinds n ks (as_many ks e refl)))
map-given n (no m p) as_many = refl

module _ (named : ℕ → Bool) {f : List ℕ} {at : ℕ} {a : Outcome ℕ} (read : Read (number types_rules) 9 f at a) where
  pub map-no-count : {e : Refusal} → a ≡ Err e → KindReadBy (mapping_of named) f at (Err e)
  unfolding mapping_of ◌>>=◌
  map-no-count is =
      let R = was-refused read is in
      record { says = rw R.says; inside = R.inside; told = tt }

  module _ {n : ℕ} {c : Cursor} (is : a ≡ Ok (n, c)) {b : Outcome ℕ} (next : Read (packed_of named n) (2 ^ 64) f c.at b) where
    map-ends : turned noted (mapping_of named f at) ≡ turned (λ x. kind_in (map_row n x)) (packed_of named n f c.at)
    unfolding mapping_of packed_of repeat ◌>>=◌ give
    map-ends =
        rw (was-got read is).says
        (map-given n (repeat n (number (element_kind_rules named)) f c.at) (λ ks e h. times-many n (λ u. number (element_kind_rules named)) (λ u k. u) tt f c.at h))

    pub map-no-kinds : {e : Refusal} → b ≡ Err e → KindReadBy (mapping_of named) f at (Err e)
    map-no-kinds none = ends-no next (was-got read is).inside (map_row n) map-ends none

    pub map-got : {e : ℕ} {d : Cursor} → b ≡ Ok (e, d) → KindReadBy (mapping_of named) f at (Ok (map_row n e, d))
    map-got it = ends-got next (was-got read is).inside (map_row n) map-ends it (omega arith)

-- ── a kind ──

module _ (named : ℕ → Bool) {f : List ℕ} {at : ℕ} {a : Outcome ℕ} (read : Read v64 (2 ^ 64) f at a) where
  -- there is no number
  pub kind-no : {e : Refusal} → a ≡ Err e → KindReads named f at (Err e)
  unfolding kind number must ◌>>=◌
  kind-no is =
      let R = was-refused read is in
      record { says = rw R.says; inside = R.inside; told = tt }

  module _ {k : ℕ} {c : Cursor} (is : a ≡ Ok (k, c)) where
    refused-at : number (kind_rules named) f at ≡ no 10 at → KindReads named f at (Err (record { fault = fault.Kind; place = at }))
    unfolding kind ◌>>=◌
    refused-at h = record { says = rw h; inside = λ lo. lo; told = tt }

    pub kind-unlisted : kind? k ≡ false → KindReads named f at (Err (record { fault = fault.Kind; place = at }))
    unfolding number kind_rules
    kind-unlisted gap = refused-at (ruled-is read (kind_rules named) is ∙ rw gap)

    pub kind-unnamed : 32 ≤ k → false ≡ named k → KindReads named f at (Err (record { fault = fault.Kind; place = at }))
    unfolding number kind_rules
    kind-unnamed le unnamed =
        refused-at (ruled-is read (kind_rules named) is ∙ rw (listed-element k (omega arith) (element-type k le), ← unnamed))

    module _ (stands : true ≡ named k) where
      ruled : kind? k ≡ true → number (kind_rules named) f at ≡ got k c.at
      unfolding number kind_rules
      ruled listed = ruled-is read (kind_rules named) is ∙ rw (listed, ← stands)

      -- what follows the number is read by r
      goes_on : {r : Reader Kind} {b : Outcome KindRow} → kind named f at ≡ r f c.at → KindReadBy r f c.at b → KindReads named f at b
      goes_on same B = record { says = B.says ∙ ap (turned noted) (sym same); inside = λ lo. B.inside ((was-got read is).inside lo); told = B.told }

      pub kind-is-constant : {b : Outcome KindRow} → k ≤ 4 → KindReadBy (constant_of k) f c.at b → KindReads named f at b
      unfolding kind constant_of when◌then◌else◌ ◌>>=◌
      kind-is-constant le B = goes_on (rw (ruled (listed-constant k le), le-leb k 4 le)) B

      pub kind-is-array : {b : Outcome KindRow} → k ≡ 15 → KindReadBy (array_of named) f c.at b → KindReads named f at b
      unfolding kind array_of when◌then◌else◌ ◌>>=◌
      kind-is-array at15 B = goes_on (rw (ruled (listed-array k at15), lt-leb k 4 (omega arith), eq-eqb k 15 at15)) B

      pub kind-is-many : {b : Outcome KindRow} → 17 ≤ k → k ≤ 19 → KindReadBy (many_of named k) f c.at b → KindReads named f at b
      unfolding kind many_of when◌then◌else◌ ◌>>=◌
      kind-is-many lo hi B =
          goes_on (rw (ruled (listed-many k lo hi), lt-leb k 4 (omega arith), ne_eqb k 15 (λ e. omega arith), le-leb 17 k lo, le-leb k 19 hi)) B

      pub kind-is-map : {b : Outcome KindRow} → k ≡ 20 → KindReadBy (mapping_of named) f c.at b → KindReads named f at b
      unfolding kind mapping_of when◌then◌else◌ ◌>>=◌
      kind-is-map at20 B =
          goes_on (rw (ruled (listed-map k at20), lt-leb k 4 (omega arith), ne_eqb k 15 (λ e. omega arith), outside 17 k 19 (λ l h. omega arith), eq-eqb k 20 at20)) B

      -- the number is all, and `first` tells that besides
      module _ (element : element_kind? k ≡ true) (alone : Alone k) where
        kind-is-plain : kind named f at ≡ got (plain k) c.at
        unfolding kind give when◌then◌else◌ ◌>>=◌
        kind-is-plain =
            rw (
              ruled (listed-element k alone.no-constant element),
              lt-leb k 4 alone.no-constant,
              ne_eqb k 15 alone.no-array,
              outside 17 k 19 alone.no-many,
              ne_eqb k 20 alone.no-map,
            )

        stands-alone : (first : ℕ) → Alone first → first ≤ 32 → KindReads named f at (Ok (last_row first k, c))
        unfolding noted
        stands-alone first shown hi =
            record {
              says = ap (λ (x : Kind). got x c.at) (kind-plain first 0 k shown) ∙ ap (turned noted) (sym kind-is-plain);
              inside = (was-got read is).inside;
              told = hi;
            }

      pub kind-is-low : 5 ≤ k → k ≤ 14 → KindReads named f at (Ok (last_row k k, c))
      kind-is-low lo hi = stands-alone (element-low k lo hi) (low-alone k lo hi) k (low-alone k lo hi) (omega arith)

      pub kind-is-type : 32 ≤ k → KindReads named f at (Ok (last_row 32 k, c))
      kind-is-type le = stands-alone (element-type k le) (high-alone k (omega arith)) 32 (high-alone 32 (omega arith)) (omega arith)

-- ── what a caller learns ──

-- a kind, of which the row is kept
pub record KindValue (named : ℕ → Bool) (f : List ℕ) (at : ℕ) (r : KindRow) (e : ℕ) : Type 0 where
  pub own : Kind
  pub says : kind named f at ≡ got own e
  pub kept : noted own ≡ kind_in r
  pub inside : at ≤ length f → e ≤ length f
  pub first : r.first ≤ 32

pub record KindRefused (named : ℕ → Bool) (f : List ℕ) (at n p : ℕ) : Type 0 where
  pub says : kind named f at ≡ no n p
  pub inside : at ≤ length f → p ≤ length f

was-noted : (o : Out Kind) {k : Kind} {e : ℕ} → got k e ≡ turned noted o → (x : Kind) × (o ≡ got x e) × (noted x ≡ k)
was-noted (got x p) {k} {e} q =
    let z : k ≡ noted x = cc q in
    let y : e ≡ p = cc q in
    (x, ap (λ (n : ℕ). got x n) (sym y), sym z)
was-noted (no n p) q = differ (cc q)

never-noted : (o : Out Kind) {n p : ℕ} → no n p ≡ turned noted o → o ≡ no n p
never-noted (got x e) q = differ (cc q)
never-noted (no m r) q = sym q

module _ {named : ℕ → Bool} {f : List ℕ} {at : ℕ} {a : Outcome KindRow} (R : KindReads named f at a) where
  pub kind-was-got : {r : KindRow} {c : Cursor} → a ≡ Ok (r, c) → KindValue named f at r c.at
  kind-was-got h =
      let S = rw h at R in
      let (x, read, kept) = was-noted (kind named f at) S.says in
      record { own = x; says = read; kept = kept; inside = S.inside; first = S.told }

  pub kind-refusal : {e : Refusal} → a ≡ Err e → KindRefused named f at (number_of e.fault) e.place
  kind-refusal h =
      let S = rw h at R in
      record { says = never-noted (kind named f at) S.says; inside = S.inside }

-- ── what the row leaves out ──

abbrev map? : Kind → Bool
map? (constant k v) = false
map? (plain k) = false
map? (array l k) = false
map? (many c k) = false
map? (mapping ks) = true

no-map : (k a e : ℕ) → (k ≡ 20 → ⊥) → map? (kind_from k a e) ≡ false
unfolding kind_from when◌then◌else◌
no-map k a e other = rw (ne_eqb k 20 other) (go (leb k 3) (eqb k 4) (eqb k 15) (leb 17 k && leb k 19))
  where
    go :
        (x y z w : Bool)
        → map? (when x then constant k (signed (2 ^ k) a) else when y then constant k (signed 8 a) else when z then array a e else when w then many k e else plain e) ≡ false
    go true y z w = refl
    go false true z w = refl
    go false false true w = refl
    go false false false true = refl
    go false false false false = refl

noted-map : (x : Kind) → map? (noted x) ≡ map? x
unfolding noted
noted-map (constant k v) = refl
noted-map (plain k) = refl
noted-map (array l k) = refl
noted-map (many c k) = refl
noted-map (mapping ks) = refl

abbrev kinds_in : Kind → List ℕ
kinds_in (constant k v) = []
kinds_in (plain k) = []
kinds_in (array l k) = []
kinds_in (many c k) = []
kinds_in (mapping ks) = ks

is-map : (x : Kind) → map? x ≡ true → x ≡ mapping (kinds_in x)
is-map (constant k v) h = differ (cc h)
is-map (plain k) h = differ (cc h)
is-map (array l k) h = differ (cc h)
is-map (many c k) h = differ (cc h)
is-map (mapping ks) h = refl

-- a map has as many element kinds as the row says
pub mapped : (r : KindRow) (x : Kind) → r.first ≡ 20 → noted x ≡ kind_in r → (ks : List ℕ) × (x ≡ mapping ks) × (length ks ≡ r.bits)
unfolding noted
mapped r x is kept =
    let row : kind_in r ≡ mapping (put_fixed r.bits r.last) = kind-mapping r.first r.bits r.last is in
    let own : x ≡ mapping (kinds_in x) = is-map x (sym (noted-map x) ∙ ap map? (kept ∙ row)) in
    let bytes : map (min 255) (kinds_in x) ≡ put_fixed r.bits r.last = ap kinds_in (sym (ap noted own) ∙ kept ∙ row) in
    (kinds_in x, own, sym (length-map (kinds_in x) (min 255)) ∙ ap length bytes ∙ fixed-length r.bits r.last)

-- only a map's element kinds are not all kept
pub exact : (r : KindRow) (x : Kind) → (r.first ≡ 20 → ⊥) → noted x ≡ kind_in r → x ≡ kind_in r
unfolding noted
exact r (constant k v) other is = is
exact r (plain k) other is = is
exact r (array l k) other is = is
exact r (many c k) other is = is
exact r (mapping ks) other is =
    let z : true ≡ false = ap map? is ∙ no-map r.first r.bits r.last other in
    differ (cc z)
