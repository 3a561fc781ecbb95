-- The ranges of all types in one list, one type after the other: those of type t stand from the t-th start up to the next.
-- Assumes nothing.
use Rattle.std.specs.Prelude.{◌≡◌, ℕ, ◌+◌, ◌-◌, ◌<◌, ◌≤◌, Bool, true, false, ◌&&◌, ◌⊎◌, List, length, take, drop, nat_le, nat_lt, slice_index, slice_range}
use Rattle.std.proofs.Math.Path.{refl}
use Rattle.std.proofs.Common.{ap, ◌∙◌, inl, inr, length-take, length-drop}
use native.Mathlib.Omega.{arith}
use borrow.Author.Tests.{leb-true, ltb-true, le-leb, lt-leb, lt-ltb, le-ltb}
use Rattle.paper.specs.Reader.{when◌then◌else◌, Reader, repeat}
use Rattle.paper.specs.Numbers.{fixed}
use Rattle.values.specs.Pass.{Passed, passed-as, alike-back}
use Rattle.values.specs.Maps.{alike-one}
use Rattle.values.specs.Listed.{Fixed, width_of}
use Rattle.values.specs.Items.{linked, some_object, item, item-object, item-fixed}
use Rattle.numbers.specs.Cursors.{Outcome}

-- kind k names a type whose ranges are there
unfoldable pub there? : List ℕ → ℕ → Bool
there? starts k = nat_le 32 k && nat_lt (k - 31) (length starts)

unfoldable pub from_of : List ℕ → ℕ → ℕ
from_of starts k = when there? starts k then slice_index starts (k - 31 - 1) else 0

unfoldable pub to_of : List ℕ → ℕ → ℕ
to_of starts k = when there? starts k then slice_index starts (k - 31) else 0

-- of a list of all, those of the type that kind k names
unfoldable pub ranges : List ℕ → ℕ → List ℕ → List ℕ
ranges starts k l = take (to_of starts k - from_of starts k) (drop (from_of starts k) l)

-- an element of kind k
unfoldable pub item_in : ℕ → List ℕ → List ℕ → List ℕ → List ℕ → ℕ → Reader ℕ
item_in strings pools starts first last k = item strings pools (ranges starts k first) (ranges starts k last) k

-- starts rise, and lie within both lists, which are as long
pub record Grouped (starts first last : List ℕ) : Type 0 where
  pub lengths : length first ≡ length last
  pub rising : (t : ℕ) → t + 1 < length starts → slice_index starts t ≤ slice_index starts (t + 1)
  pub inside : (t : ℕ) → t < length starts → slice_index starts t ≤ length first

-- ── as code finds them ──

pub record Spanned (starts : List ℕ) (k from to : ℕ) : Type 0 where
  pub from_is : from ≡ from_of starts k
  pub to_is : to ≡ to_of starts k

module _ (starts : List ℕ) (k : ℕ) where
  pub span-low : k < 32 → Spanned starts k 0 0
  unfolding from_of to_of there? when◌then◌else◌
  span-low h = record { from_is = rw (lt-leb 32 k h); to_is = rw (lt-leb 32 k h) }

  module _ (h : 32 ≤ k) where
    pub span-far : length starts ≤ k - 31 → Spanned starts k 0 0
    unfolding from_of to_of there? when◌then◌else◌
    span-far far = record { from_is = rw (le-leb 32 k h, le-ltb (k - 31) (length starts) far); to_is = rw (le-leb 32 k h, le-ltb (k - 31) (length starts) far) }

    pub span-there : k - 31 < length starts → Spanned starts k (slice_index starts (k - 31 - 1)) (slice_index starts (k - 31))
    unfolding from_of to_of there? when◌then◌else◌
    span-there near = record { from_is = rw (le-leb 32 k h, lt-ltb (k - 31) (length starts) near); to_is = rw (le-leb 32 k h, lt-ltb (k - 31) (length starts) near) }

-- such a part can be lent
pub record Lendable (first last : List ℕ) (from to : ℕ) : Type 0 where
  pub rising : from ≤ to
  pub in-first : to ≤ length first
  pub in-last : to ≤ length last

pub lendable : {starts first last : List ℕ} {k from to : ℕ} → Grouped starts first last → Spanned starts k from to → Lendable first last from to
unfolding from_of to_of there? when◌then◌else◌
lendable {starts} {first} {last} {k} G S = rw (S.from_is, S.to_is) (go (nat_le 32 k) refl (nat_lt (k - 31) (length starts)) refl)
  where
    go :
        (x : Bool) → nat_le 32 k ≡ x → (y : Bool) → nat_lt (k - 31) (length starts) ≡ y
        → Lendable first last (when x && y then slice_index starts (k - 31 - 1) else 0) (when x && y then slice_index starts (k - 31) else 0)
    go true t true u =
        let big = leb-true 32 k t in
        let near = ltb-true (k - 31) (length starts) u in
        let next : k - 31 ≡ k - 31 - 1 + 1 = omega arith in
        record {
          rising = rw (← next) at (G.rising (k - 31 - 1) (omega arith));
          in-first = G.inside (k - 31) near;
          in-last = omega (arith, G.inside (k - 31) near, G.lengths);
        }
    go true t false u = record { rising = omega arith; in-first = omega arith; in-last = omega arith }
    go false t y u = record { rising = omega arith; in-first = omega arith; in-last = omega arith }

-- it is the type's own
pub lent-own :
    {starts : List ℕ} {k from to : ℕ} (first last : List ℕ) → Spanned starts k from to
    → (slice_range first from to ≡ ranges starts k first) × (slice_range last from to ≡ ranges starts k last)
unfolding ranges
lent-own first last S = (rw (S.from_is, S.to_is) refl, rw (S.from_is, S.to_is) refl)

-- both parts are as long
pub parts-match : {first last : List ℕ} {from to : ℕ} → Lendable first last from to → length (slice_range first from to) ≡ length (slice_range last from to)
parts-match {first} {last} {from} {to} L =
    let a = L.in-first in
    let b = L.in-last in
    let c = L.rising in
    rw (length-take, length-drop, length-take, length-drop) (omega arith)

-- the kind's own reader
pub item-direct :
    (strings : ℕ) (pools starts first last : List ℕ) (k : ℕ) (q : Reader ℕ) {f : List ℕ} {at : ℕ} {a : Outcome ℕ}
    → ((a b : List ℕ) → item strings pools a b k ≡ q) → Passed q f at a → Passed (item_in strings pools starts first last k) f at a
unfolding item_in
item-direct strings pools starts first last k q is P = rw (is (ranges starts k first) (ranges starts k last)) P

-- a run of one
pub one-passed : (q : Reader ℕ) {f : List ℕ} {at : ℕ} {a : Outcome ℕ} → Passed (repeat 1 q) f at a → Passed q f at a
one-passed q P = passed-as P (alike-back (alike-one q))

-- that of a type is held to its own ranges
pub item-own :
    (strings : ℕ) (pools starts first last : List ℕ) {k : ℕ} {own-first own-last f : List ℕ} {at : ℕ} {a : Outcome ℕ} → 32 ≤ k
    → (own-first ≡ ranges starts k first) × (own-last ≡ ranges starts k last)
    → Passed (repeat 1 (linked (some_object own-first own-last))) f at a
    → Passed (item_in strings pools starts first last k) f at a
unfolding item_in
item-own strings pools starts first last {k} big own P =
    rw (item-object strings pools (ranges starts k first) (ranges starts k last) k big) (one-passed _ (rw (own.0, own.1) at P))

-- those of a fixed width
module _ (strings : ℕ) (pools : List ℕ) {k : ℕ} where
  width_is : (n w : ℕ) → k ≡ n → Fixed n → width_of n ≡ w → (a b : List ℕ) → item strings pools a b k ≡ fixed w
  width_is n w is F wide a b = ap (item strings pools a b) is ∙ item-fixed strings pools a b n F ∙ ap fixed wide

  pub item-1 : k ≡ 7 → (a b : List ℕ) → item strings pools a b k ≡ fixed 1
  unfolding width_of when◌then◌else◌
  item-1 is = width_is 7 1 is (record { low = omega arith; high = omega arith; not-v64 = λ q. omega arith }) refl

  pub item-2 : k ≡ 8 → (a b : List ℕ) → item strings pools a b k ≡ fixed 2
  unfolding width_of when◌then◌else◌
  item-2 is = width_is 8 2 is (record { low = omega arith; high = omega arith; not-v64 = λ q. omega arith }) refl

  pub item-4 : (k ≡ 9) ⊎ (k ≡ 12) → (a b : List ℕ) → item strings pools a b k ≡ fixed 4
  unfolding width_of when◌then◌else◌
  item-4 (inl is) = width_is 9 4 is (record { low = omega arith; high = omega arith; not-v64 = λ q. omega arith }) refl
  item-4 (inr is) = width_is 12 4 is (record { low = omega arith; high = omega arith; not-v64 = λ q. omega arith }) refl

  pub item-8 : (k ≡ 10) ⊎ (k ≡ 13) → (a b : List ℕ) → item strings pools a b k ≡ fixed 8
  unfolding width_of when◌then◌else◌
  item-8 (inl is) = width_is 10 8 is (record { low = omega arith; high = omega arith; not-v64 = λ q. omega arith }) refl
  item-8 (inr is) = width_is 13 8 is (record { low = omega arith; high = omega arith; not-v64 = λ q. omega arith }) refl
