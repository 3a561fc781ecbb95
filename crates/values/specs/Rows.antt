-- A column of values of a fixed width: their number is known before the first is stored. One law for every width. Assumes nothing.
use Rattle.std.specs.Prelude.{Ok, Err, ◌≡◌, ℕ, suc, ◌+◌, ◌-◌, ◌*◌, ◌/◌, ◌%◌, ◌^◌, ◌<◌, ◌≤◌, min, true, false, List, length, ℤ, ◌==◌, ◌≢◌, nat_eq, slice_set}
use Rattle.std.proofs.Math.Path.{refl, sym, ap}
use Rattle.std.proofs.Common.{◌∙◌, arith, lt_of_not-le, mod-lt, lit<, lit≤, length-set, mul-le-mul_left, mul-le-mul_right, div-mul-le_self, le-leb, ne_eqb}
use Rattle.std.proofs.Math.Nat.{div-add-mod, one-le-pow, mod-eq_of_lt, le_of_lt, min-eq_left, min-eq_right, min-le_left}
use Rattle.std.proofs.Math.Decide.{dec_le}
use Rattle.std.proofs.lemmas.Bool.{lt-leb}
use Rattle.paper.specs.Reader.{when◌then◌else◌, Out, got}
use Rattle.paper.specs.Numbers.{fixed, v64}
use Rattle.paper.specs.Rules.{single_kind?}
use Rattle.paper.specs.Calls.{stored}
use Rattle.numbers.specs.Cursors.{Outcome, Read, was-got, answer-no}
use Rattle.numbers.specs.Turned.{TakenAt, TakenV64}
use Rattle.numbers.specs.declared.Taken.{Taken}
use Rattle.numbers.specs.declared.Cursor.{Cursor}
use Rattle.numbers.specs.declared.Refusal.{Refusal}
use Rattle.values.specs.Held.{fixed-cut, ruled-taken, ruled-refused}
use Rattle.values.specs.Items.{linked, at_most}
use Rattle.values.specs.Listed.{single-5}
use Rattle.values.specs.Bare.{bare, bound_of, made, made-link, bare-link, bound-link}
use Rattle.values.specs.Columns.{element_of, Storable, value-got, value-cut}
use Rattle.values.specs.Filling.{Filled, Filling, fill_start, fill_done, fill-full, fill-cut, fill-no, fill-next}
use Rattle.values.specs.declared.columns.Value.{Value}
use Rattle.values.specs.declared.columns.Value.TheVariants.{Object}
use Rattle.numbers.specs.declared.Fault.TheVariants as fault

-- kind k has values of w bytes
pub record Wide (k w : ℕ) : Type 0 where
  pub listed : single_kind? k ≡ true
  pub some : 0 < w
  pub most : w ≤ 8
  pub reads : bare k ≡ fixed w
  pub bound : bound_of k ≡ 256 ^ w

pub wide-6 : Wide 6 1
unfolding single_kind? bare bound_of when◌then◌else◌
wide-6 = record { listed = refl; some = lit< tt; most = lit≤ tt; reads = refl; bound = refl }

pub wide-7 : Wide 7 1
unfolding single_kind? bare bound_of when◌then◌else◌
wide-7 = record { listed = refl; some = lit< tt; most = lit≤ tt; reads = refl; bound = refl }

pub wide-8 : Wide 8 2
unfolding single_kind? bare bound_of when◌then◌else◌
wide-8 = record { listed = refl; some = lit< tt; most = lit≤ tt; reads = refl; bound = refl }

pub wide-9 : Wide 9 4
unfolding single_kind? bare bound_of when◌then◌else◌
wide-9 = record { listed = refl; some = lit< tt; most = lit≤ tt; reads = refl; bound = refl }

pub wide-10 : Wide 10 8
unfolding single_kind? bare bound_of when◌then◌else◌
wide-10 = record { listed = refl; some = lit< tt; most = lit≤ tt; reads = refl; bound = refl }

pub wide-12 : Wide 12 4
unfolding single_kind? bare bound_of when◌then◌else◌
wide-12 = record { listed = refl; some = lit< tt; most = lit≤ tt; reads = refl; bound = refl }

pub wide-13 : Wide 13 8
unfolding single_kind? bare bound_of when◌then◌else◌
wide-13 = record { listed = refl; some = lit< tt; most = lit≤ tt; reads = refl; bound = refl }

-- v is the value of kind k that n stands for
pub record Stood (k n : ℕ) (v : Value) : Type 0 where
  pub is : element_of v ≡ made k n
  pub fits : Storable v

pub stood : {k n : ℕ} {v : Value} → (element_of v ≡ made k n) × Storable v → Stood k n v
stood h = record { is = h.0; fits = h.1 }

pub stood-object : (k n : ℕ) → 13 < k → n < 2 ^ 63 → Stood k n (Object n)
unfolding element_of Storable
stood-object k n high h = record { is = sym (made-link k high n); fits = h }

-- ── the loop: p - at values are stored, and the next stands at `from` ──

pub record Row (k w : ℕ) (f : List ℕ) (l : List ℤ) (at : ℕ) (m : List ℤ) (p from n : ℕ) : Type 0 where
  pub filling : Filling k f l at m p from
  pub place : from + w * at ≡ w * p
  pub low : at ≤ p
  pub high : p ≤ at + n

pub row-start : (k w : ℕ) (f : List ℕ) (l : List ℤ) (at n : ℕ) → Row k w f l at l at 0 n
row-start k w f l at n = record { filling = fill_start k f l at; place = omega arith; low = omega arith; high = omega arith }

module _ {k w : ℕ} (W : Wide k w) {f : List ℕ} {l : List ℤ} {at : ℕ} {m : List ℤ} {p from n : ℕ} (R : Row k w f l at m p from n) where
  pub row_next :
      p < at + n → from + w ≤ length f → {t : Taken} → TakenAt w f from t → {v : Value} → Stood k t.number v
      → {z : ℤ} → z ≡ stored (element_of v) → Row k w f l at (slice_set m p z) (p + 1) t.next.at n
  row_next due there {t} T S e =
      let end : t.next.at ≤ length f = omega (arith, T.place) in
      let reads : bare k f from ≡ got t.number t.next.at = rw W.reads T.says in
      let N : Read (bare k) (bound_of k) f from (Ok (t.number, t.next)) = record { says = sym reads; inside = λ h. end; below = rw W.bound T.below } in
      record {
        filling = fill-next R.filling (omega (arith, W.some)) (value-got (single-5 k W.listed) N refl (S.is, S.fits)) refl e;
        place = omega (arith, R.place, T.place);
        low = omega (arith, R.low);
        high = omega arith;
      }

  -- one more is there
  pub row-room : p < at + n → (m : ℕ) → n ≡ min (length f / w) m → from + w ≤ length f
  row-room due m N =
      let few : n ≤ length f / w = omega (arith, min-le_left (length f / w) m) in
      let more : w * (p + 1) ≤ w * (at + n) = mul-le-mul_left w (omega arith) in
      omega (arith, R.place, mul-le-mul_right w few, div-mul-le_self (length f) w)

  -- fewer bytes are left than a value has, or there is no room: values that keep the rules have neither
  pub row_done : at + n ≤ p → n ≡ min (length f / w) (length l - at) → at ≤ length l → Filled k f l at m (at + n)
  row_done stop N inside =
      let here : p ≡ at + n = omega (arith, R.high) in
      let filled : Filled k f l at m p = elim (dec_le (length f) from) [
        | yes h ↦ fill_done R.filling (single-5 k W.listed) h
        | no h ↦
            (elim (dec_le (length l) p) [
              | yes full ↦ fill-full R.filling (lt_of_not-le h) (rw R.filling.long full)
              | no room ↦ fill-cut R.filling (lt_of_not-le h) (value-cut (single-5 k W.listed) (no_more (lt_of_not-le room)) refl) refl
            ])
      ] in
      rw here at filled
    where
      all : p < length l → n ≡ length f / w
      all room =
          elim (dec_le (length f / w) (length l - at)) [
            | yes d ↦ N ∙ min-eq_left d
            | no d ↦ (let full = N ∙ min-eq_right (le_of_lt (lt_of_not-le d)) in absurd (omega (arith, R.high)))
          ]

      left : p < length l → length f < from + w
      left room =
          let count = all room in
          let here : p ≡ at + n = omega (arith, R.high) in
          let place : from + w * at ≡ w * (at + length f / w) = R.place ∙ ap (λ (i : ℕ). w * i) (here ∙ ap (λ (i : ℕ). at + i) count) in
          omega (arith, div-add-mod (length f) w, mod-lt (length f) W.some)

      no_more : p < length l → Read (bare k) (bound_of k) f from (Err (record { fault = fault.Short; place = from }))
      no_more room =
          let cut : bare k f from ≡ Out.no 1 from = rw W.reads (fixed-cut w f from (left room)) in
          answer-no cut (rw W.bound (one-le-pow w 256 (lit< tt)))

-- ── numbers of several widths, read one after the other ──

-- a v64 has a value
pub v64-listed : (n : ℕ) → n < 2 ^ 64 → (single_kind? 11 ≡ true) × (n < bound_of 11)
unfolding single_kind? bound_of when◌then◌else◌
v64-listed n h = (refl, h)

module _ {f : List ℕ} {at : ℕ} {a : Outcome ℕ} where
  pub read-v64 : Read v64 (2 ^ 64) f at a → Read (bare 11) (bound_of 11) f at a
  unfolding bare bound_of when◌then◌else◌
  read-v64 R = R

  read-object : (k : ℕ) → 13 < k → Read (linked (at_most (2 ^ 63 - 1))) (2 ^ 63) f at a → Read (bare k) (bound_of k) f at a
  read-object k h R = rw (bare-link k h, bound-link k h) R

module _ {k : ℕ} (single : nat_eq k 5 ≡ false) {f : List ℕ} {l : List ℤ} {at : ℕ} {m : List ℤ} {p from : ℕ} (g : Filling k f l at m p from) (before : from < length f) {a : Outcome ℕ} (R : Read (bare k) (bound_of k) f from a) where
  pub number_cut : {e : Refusal} → a ≡ Err e → Filled k f l at m p
  number_cut is = fill-cut g before (value-cut single R is) refl

  pub number-next :
      {n : ℕ} {c : Cursor} → a ≡ Ok (n, c) → {v : Value} → Stood k n v → {z : ℤ} → z ≡ stored (element_of v)
      → Filling k f l at (slice_set m p z) (p + 1) c.at
  number-next is S e = fill-next g before (value-got single R is (S.is, S.fits)) refl e

-- numbers of strings and of objects, whichever kind they have
pub record Links (f : List ℕ) (l : List ℤ) (at : ℕ) (m : List ℤ) (p from : ℕ) : Type 0 where
  pub long : length m ≡ length l
  pub each : (k : ℕ) → 13 < k → Filling k f l at m p from

pub links-start : (f : List ℕ) (l : List ℤ) (at : ℕ) → Links f l at l at 0
links-start f l at = record { long = refl; each = λ k h. fill_start k f l at }

not-annotation : (k : ℕ) → 13 < k → (k == 5) ≡ false
not-annotation k h = ne_eqb k 5 (λ e. omega arith)

module _ {f : List ℕ} {l : List ℤ} {at : ℕ} {m : List ℤ} {p from : ℕ} (g : Links f l at m p from) where
  pub links-done : length f ≤ from → (k : ℕ) → 13 < k → Filled k f l at m p
  links-done e k h = fill_done (g.each k h) (not-annotation k h) e

  module _ (before : from < length f) where
    pub links-full : length m ≤ p → (k : ℕ) → 13 < k → Filled k f l at m p
    links-full full k h = fill-full (g.each k h) before full

    module _ {a : Outcome ℕ} (R : Read (linked (at_most (2 ^ 63 - 1))) (2 ^ 63) f from a) where
      pub links-cut : {e : Refusal} → a ≡ Err e → (k : ℕ) → 13 < k → Filled k f l at m p
      links-cut is k h = number_cut (not-annotation k h) (g.each k h) before (read-object k h R) is

      pub link_fits : {n : ℕ} {c : Cursor} → a ≡ Ok (n, c) → Storable (Object n)
      link_fits {n} is = (stood-object 14 n (omega arith) (was-got R is).below).fits

      pub links-next : {n : ℕ} {c : Cursor} → a ≡ Ok (n, c) → {z : ℤ} → z ≡ stored (element_of (Object n)) → Links f l at (slice_set m p z) (p + 1) c.at
      links-next {n} is {z} e =
          record {
            long = length-set m p z ∙ g.long;
            each = λ k h. number-next (not-annotation k h) (g.each k h) before (read-object k h R) is (stood-object k n h (was-got R is).below) e;
          }

-- ── numbers that are known to be there, stored without a test ──

abbrev pub IsV64 : ℕ → Type 0
IsV64 k = k ≡ 11

abbrev pub IsLink : ℕ → Type 0
IsLink k = 13 < k

-- n values of such a kind, from `from` up to r, stored from place p on
pub record On (K : ℕ → Type 0) (f : List ℕ) (from : ℕ) (l : List ℤ) (p n : ℕ) (m : List ℤ) (r : ℕ) : Type 0 where
  pub long : length m ≡ length l
  pub fills : (k : ℕ) → K k → (l₀ : List ℤ) (at : ℕ) → Filling k f l₀ at l p from → Filling k f l₀ at m (p + n) r
  pub most : r ≤ from + 9 * n

pub on-start : (K : ℕ → Type 0) (f : List ℕ) (from : ℕ) (l : List ℤ) (p : ℕ) → On K f from l p 0 l from
on-start K f from l p =
    let here : p + 0 ≡ p = omega arith in
    record { long = refl; fills = λ k h l₀ at g. rw here g; most = omega arith }

pub on-done : {K : ℕ → Type 0} {f : List ℕ} {from : ℕ} {l : List ℤ} {p i : ℕ} {m : List ℤ} {r : ℕ} (n : ℕ) → On K f from l p i m r → i ≡ n → On K f from l p n m r
on-done n O is = rw is at O

taken-read : {f : List ℕ} {at : ℕ} {t : Taken} → TakenV64 f at t → at + 9 ≤ length f → Read v64 (2 ^ 64) f at (Ok (t.number, t.next))
taken-read T h = record { says = sym T.says; inside = λ i. omega (arith, T.most); below = T.below }

module _ {K : ℕ → Type 0} {f : List ℕ} {from : ℕ} {l : List ℤ} {p n : ℕ} {m : List ℤ} {r : ℕ} (O : On K f from l p n m r) {t : Taken} (T : TakenV64 f r t) (room : r + 9 ≤ length f) where
  on-more :
      (z : ℤ)
      → ((k : ℕ) → K k → (l₀ : List ℤ) (at : ℕ) → Filling k f l₀ at m (p + n) r → Filling k f l₀ at (slice_set m (p + n) z) (p + n + 1) t.next.at)
      → On K f from l p (n + 1) (slice_set m (p + n) z) t.next.at
  on-more z step =
      let next : p + (n + 1) ≡ p + n + 1 = omega arith in
      record {
        long = length-set m (p + n) z ∙ O.long;
        fills = λ k h l₀ at g. rw next (step k h l₀ at (O.fills k h l₀ at g));
        most = omega (arith, O.most, T.most);
      }

module _ {f : List ℕ} {from : ℕ} {l : List ℤ} {p n : ℕ} {m : List ℤ} {r : ℕ} {t : Taken} (T : TakenV64 f r t) (room : r + 9 ≤ length f) {z : ℤ} where
  pub on-v64 :
      {v : Value} → On IsV64 f from l p n m r → Stood 11 t.number v → z ≡ stored (element_of v)
      → On IsV64 f from l p (n + 1) (slice_set m (p + n) z) t.next.at
  on-v64 O S e =
      on-more O T room z
      (λ k is l₀ at g. rw is (number-next refl (rw is at g) (omega arith) (read-v64 (taken-read T room)) refl S e))

  pub on-link :
      On IsLink f from l p n m r → z ≡ stored (element_of (Object (t.number % 2 ^ 63)))
      → On IsLink f from l p (n + 1) (slice_set m (p + n) z) t.next.at
  unfolding linked at_most
  on-link O e =
      on-more O T room z
      (λ k h l₀ at g.
      elim (dec_le t.number (2 ^ 63 - 1)) [
        | yes small ↦
            (let R = ruled-taken _ fault.Reference (2 ^ 63) (taken-read T room) refl (le-leb t.number (2 ^ 63 - 1) small) (omega arith) in
            let same : t.number % 2 ^ 63 ≡ t.number = mod-eq_of_lt (omega arith) in
            number-next (not-annotation k h) g (omega arith) (read-object k h R) refl (stood-object k t.number h (omega arith)) (rw same at e))
        | no large ↦
            (let R = ruled-refused _ fault.Reference (2 ^ 63) (taken-read T room) refl (lt-leb t.number (2 ^ 63 - 1) (lt_of_not-le large)) (omega arith) in
            fill-no g (omega arith) (value-cut (not-annotation k h) (read-object k h R) refl) refl (length-set m (p + n) z ∙ g.long))
      ])

pub link-low : (n : ℕ) → Storable (Object (n % 2 ^ 63))
unfolding Storable
link-low n = mod-lt n (lit< tt)

-- the loop over them goes on from there
pub links-on :
    {f : List ℕ} {l : List ℤ} {at : ℕ} {m m' : List ℤ} {p from n r : ℕ} → Links f l at m p from → On IsLink f from m p n m' r → Links f l at m' (p + n) r
links-on g O = record { long = O.long ∙ g.long; each = λ k h. O.fills k h _ _ (g.each k h) }

-- a place behind the end of the column: no value was to be stored there
pub filled_none : {k : ℕ} {f : List ℕ} {l : List ℤ} {at : ℕ} → length l < at → Filled k f l at l at
filled_none h =
    record { numbers = λ s n vs F. absurd (omega (arith, F.room)); place = λ s n vs F. absurd (omega (arith, F.room)) }

past : (n : ℕ) {k : ℕ} → n ≤ k → (k ≢ n) → suc n ≤ k
past n h other = omega arith

-- behind the kinds that have a loop of their own only strings and objects are left
pub objects-only :
    (k : ℕ) → 6 ≤ k → (k ≢ 6) → (k ≢ 7) → (k ≢ 8) → (k ≢ 9) → (k ≢ 10) → (k ≢ 11) → (k ≢ 12) → (k ≢ 13) → 13 < k
objects-only k h a6 a7 a8 a9 a10 a11 a12 a13 =
    past 13 (past 12 (past 11 (past 10 (past 9 (past 8 (past 7 (past 6 h a6) a7) a8) a9) a10) a11) a12) a13
