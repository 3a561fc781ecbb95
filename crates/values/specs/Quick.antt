-- The quick way over elements: the place behind one is all that is answered, and bounds are all that it is held to. Assumes nothing.
use Rattle.std.specs.Prelude.{Ok, ◌≡◌, ℕ, ◌+◌, ◌-◌, ◌<◌, ◌≤◌, Bool, true, false, ◌||◌, List, length, ◌==◌, ◌≢◌, slice_index, slice_index_or, refl}
use Rattle.std.proofs.Common.{sym, ap, ◌∙◌, arith}
use Rattle.std.proofs.Math.Nat.{lt_of_not-le}
use Rattle.std.proofs.Math.Decide.{dec_le}
use borrow.Author.Tests.{le-leb, lt-leb, eq-eqb}
use Rattle.paper.specs.Reader.{Reader, Out, got, no, and_then, when◌then◌else◌, ◌>>=◌, give, started, must, repeat}
use Rattle.paper.specs.Numbers.{fixed, coding, low_first, v64, number}
use Rattle.numbers.specs.Cursors.{Step, out_step, Past}
use Rattle.numbers.specs.Begun.{one_byte}
use Rattle.numbers.specs.declared.Cursor.{Cursor}
use Rattle.values.specs.Pass.{forget, Passed, Running, running-on, running-done}
use Rattle.values.specs.Turns.{turning-start}
use Rattle.values.specs.Held.{fixed-there}
use Rattle.values.specs.Items.{in_range, range-found, linked, at_most, some_object, item, item-object}
use Rattle.values.specs.Spans.{ranges, item_in}
use Rattle.values.specs.Ways.{key_in, way-last}
use Rattle.values.specs.declared.maps.Bounds.{Bounds}

-- above every place
abbrev pub FAR : ℕ
FAR = 18446744073709551615

-- a number is 0 or lies above `low`, and is at most `high`; where that is the largest, it is any
pub record Within (low high n : ℕ) : Type 0 where
  pub most : high < FAR → n ≤ high
  pub least : high < FAR → (n ≢ 0) → low < n

-- a number stands from `at` to `end`
pub record Any (f : List ℕ) (at end : ℕ) : Type 0 where
  pub value : ℕ
  pub reads : v64 f at ≡ got value end

-- and is within the bounds
pub record Numbered (low high : ℕ) (f : List ℕ) (at end : ℕ) : Type 0 where
  pub value : ℕ
  pub reads : v64 f at ≡ got value end
  pub within : Within low high value

-- an element stands there
pub record Stands (width low high : ℕ) (f : List ℕ) (at end : ℕ) : Type 0 where
  pub wide : 0 < width → (width ≤ 8) × (end ≡ at + width)
  pub number : width ≡ 0 → Numbered low high f at end
  pub inside : end ≤ length f

-- a reader goes over what stands there
pub record Skips {A : Type 0} (q : Reader A) (f : List ℕ) (at end : ℕ) : Type 0 where
  pub says : forget (q f at) ≡ got tt end
  pub inside : end ≤ length f

-- a reader goes over every element within the bounds
pub record Quick (q : Reader ℕ) (b : Bounds) : Type 0 where
  pub over : {f : List ℕ} {at end : ℕ} → Stands b.width b.low b.high f at end → Skips q f at end

pub quick-behind :
    {A : Type 0} {q : A → Reader ℕ} {b : Bounds} {f : List ℕ} {at end : ℕ} → ((a : A) → Quick (q a) b) → Stands b.width b.low b.high f at end → (a : A) → Skips (q a) f at end
quick-behind Q S a = (Q a).over S

pub skips-passed : {A : Type 0} {q : Reader A} {f : List ℕ} {at end : ℕ} → Skips q f at end → Passed q f at (Ok (0, record { at = end }))
unfolding forget
skips-passed S = record { says = sym S.says; inside = λ h. S.inside }

-- ── numbers ──

pub within_held : {low high n : ℕ} → n ≤ high → ((n ≢ 0) → low < n) → Within low high n
within_held h k = record { most = λ x. h; least = λ x. k }

pub one_number : (f : List ℕ) (at b : ℕ) → at < length f → b ≡ slice_index f at → b < 128 → v64 f at ≡ got b (at + 1)
unfolding v64 started coding ◌>>=◌ give when◌then◌else◌ low_first
one_number f at b h is lt = let low : slice_index_or f at 0 < 128 = omega arith in rw (one_byte f at h, lt-leb 128 (slice_index f at) low) (ap (λ (n : ℕ). got n (at + 1)) (sym is))

pub past-any : {f : List ℕ} {at : ℕ} {a : Step} {c : Cursor} → Past v64 f at a → a ≡ Ok c → Any f at c.at
past-any {f} {at} {a} {c} P is = go (v64 f at) refl (sym (ap (λ (s : Step). out_step s (tt {0})) is) ∙ P.says)
  where
    go : (o : Out ℕ) → v64 f at ≡ o → got (tt {0}) c.at ≡ and_then o (λ n e. got tt e) → Any f at c.at
    go (got n e) q h = let z : e ≡ c.at = cc h in record { value = n; reads = q ∙ ap (λ (p : ℕ). got n p) z }
    go (no n p) q h = let z : ◌≡◌ {A = ℕ} 0 1 = cc h in absurd (omega arith)

pub any-numbered : {low high : ℕ} {f : List ℕ} {at end : ℕ} → high ≡ FAR → Any f at end → Numbered low high f at end
any-numbered is A = record { value = A.value; reads = A.reads; within = record { most = λ h. absurd (omega arith); least = λ h. absurd (omega arith) } }

pub numbered : {low high : ℕ} {f : List ℕ} {at n end r : ℕ} → v64 f at ≡ got n end → (r ≡ end) × Within low high n → Numbered low high f at r
numbered {n = n} {end = end} reads w = record { value = n; reads = reads ∙ ap (λ (p : ℕ). got n p) (sym w.0); within = w.1 }

-- ── an element ──

pub stands-number : {width low high : ℕ} {f : List ℕ} {at r : ℕ} → width ≡ 0 → Numbered low high f at r → r ≤ length f → Stands width low high f at r
stands-number is N inside = record { wide = λ h. absurd (omega arith); number = λ h. N; inside = inside }

pub stands-wide : {width low high : ℕ} {f : List ℕ} {at : ℕ} → (width ≢ 0) → width ≤ 8 → at + width ≤ length f → Stands width low high f at (at + width)
stands-wide some most inside = record { wide = λ h. (most, refl); number = λ h. absurd (some h); inside = inside }

-- ── what each kind is held to ──

pub quick-none : (q : Reader ℕ) {b : Bounds} → 8 < b.width → Quick q b
quick-none q h = record { over = λ S. absurd (omega (arith, (S.wide (omega arith)).0)) }

pub quick-fixed : (w : ℕ) {b : Bounds} → 0 < w → b.width ≡ w → Quick (fixed w) b
quick-fixed w {b} some is = record { over = λ S. go S }
  where
    go : {f : List ℕ} {at end : ℕ} → Stands b.width b.low b.high f at end → Skips (fixed w) f at end
    go {f} {at} {end} S =
        let to : end ≡ at + w = (S.wide (omega arith)).1 ∙ ap (λ (n : ℕ). at + n) is in
        let i = S.inside in
        record { says = rw to (fixed-there w f at (omega arith)); inside = S.inside }

pub quick-any : {b : Bounds} → b.width ≡ 0 → Quick v64 b
unfolding forget
quick-any is = record { over = λ S. record { says = rw (S.number is).reads; inside = S.inside } }

linked-over : (ok : ℕ → Bool) {f : List ℕ} {at n end : ℕ} → v64 f at ≡ got n end → ok n ≡ true → end ≤ length f → Skips (linked ok) f at end
unfolding linked number must forget
linked-over ok reads t i = record { says = rw (reads, t); inside = i }

pub quick-string : (strings : ℕ) {b : Bounds} → strings < FAR → b.width ≡ 0 → b.high ≡ strings → Quick (linked (at_most strings)) b
unfolding at_most
quick-string strings {b} short is top =
    record { over = λ S. let N = S.number is in linked-over (at_most strings) N.reads (le-leb N.value strings (omega (arith, N.within.most (omega arith)))) S.inside }

-- one range
or-true : (x : Bool) → (x || true) ≡ true
or-true true = refl
or-true false = refl

module _ (first last : List ℕ) (one : length first ≡ 1) (same : length first ≡ length last) where
  one-object : (n : ℕ) → n ≤ slice_index last 0 → ((n ≢ 0) → slice_index first 0 < n) → some_object first last n ≡ true
  unfolding some_object in_range
  one-object n high low =
      elim (dec_le 1 n) [
        | Dec.yes d ↦
            (let above = low (λ z. omega arith) in
            let inside : in_range first last 0 n ≡ true = rw (le-leb (slice_index first 0 + 1) n (omega arith), le-leb n (slice_index last 0) high) in
            rw (range-found first last 0 n same (omega arith) inside) (or-true (n == 0)))
        | Dec.no d ↦ (let z : n ≡ 0 = omega (arith, lt_of_not-le d) in rw (eq-eqb n 0 z))
      ]

  quick-linked : {b : Bounds} → b.width ≡ 0 → b.low ≡ slice_index first 0 → b.high ≡ slice_index last 0 → b.high < FAR → Quick (linked (some_object first last)) b
  quick-linked {b} is low high short =
      record {
        over = λ S.
            let N = S.number is in
            linked-over (some_object first last) N.reads (one-object N.value (omega (arith, N.within.most short, high)) (λ z. omega (arith, N.within.least short z, low))) S.inside;
      }

-- of a type with one range
pub quick-object :
    (starts first last : List ℕ) {own-first own-last : List ℕ} {k : ℕ} {b : Bounds} → 32 ≤ k
    → (own-first ≡ ranges starts k first) × (own-last ≡ ranges starts k last) → length own-first ≡ length own-last → length own-first ≡ 1
    → b.width ≡ 0 → b.low ≡ slice_index own-first 0 → b.high ≡ slice_index own-last 0 → b.high < FAR
    → (strings : ℕ) (pools : List ℕ) → Quick (item_in strings pools starts first last k) b
unfolding item_in
quick-object starts first last {own-first} {own-last} {k} {b} big own same one is low high short strings pools =
    let Q : Quick (linked (some_object own-first own-last)) b = quick-linked own-first own-last one same is low high short in
    rw (item-object strings pools (ranges starts k first) (ranges starts k last) k big) (rw (own.0, own.1) at Q)

-- by the reader of the kind
pub quick-item :
    (strings : ℕ) (pools starts first last : List ℕ) (k : ℕ) {q : Reader ℕ} {b : Bounds} → ((a c : List ℕ) → item strings pools a c k ≡ q) → Quick q b
    → Quick (item_in strings pools starts first last k) b
unfolding item_in
quick-item strings pools starts first last k is Q = rw (is (ranges starts k first) (ranges starts k last)) Q

pub quick-text :
    (strings : ℕ) (pools starts first last : List ℕ) (k : ℕ) {b : Bounds} → k ≡ 14 → ((a c : List ℕ) → Quick (item strings pools a c 14) b)
    → Quick (item_in strings pools starts first last k) b
unfolding item_in
quick-text strings pools starts first last k is Q = rw is (Q (ranges starts 14 first) (ranges starts 14 last))

-- ── pairs of elements ──

-- a reader goes over such a pair
pub record Steps (key value : Bounds) (f : List ℕ) (p : Reader (List ℕ)) : Type 0 where
  pub over : {at mid end : ℕ} → Stands key.width key.low key.high f at mid → Stands value.width value.low value.high f mid end → Skips p f at end

-- of n pairs from a place on, this many are left
pub record Paired (key value : Bounds) (f : List ℕ) (n from rest at : ℕ) : Type 0 where
  pub runs : {p : Reader (List ℕ)} → Steps key value f p → Running p f n from rest at
  pub inside : at ≤ length f

module _ {key value : Bounds} {f : List ℕ} {n from : ℕ} where
  -- as a loop counts them, i are behind it
  pub paired-start : from ≤ length f → Paired key value f n from (n - 0) from
  paired-start h = record { runs = λ S. turning-start _ f n from; inside = h }

  pub paired-next :
      {i at mid end : ℕ} → Paired key value f n from (n - i) at → i < n
      → Stands key.width key.low key.high f at mid → Stands value.width value.low value.high f mid end
      → Paired key value f n from (n - (i + 1)) end
  paired-next {i} P due K W =
      let less : n - (i + 1) ≡ n - i - 1 = omega arith in
      record { runs = λ S. rw less (running-on (P.runs S) (omega arith) _ (S.over K W).says (λ h. W.inside)); inside = W.inside }

  pub paired-done : {i at : ℕ} → Paired key value f n from (n - i) at → n ≤ i → Paired key value f n from 0 at
  paired-done {i} {at} P h = let z : n - i ≡ 0 = omega arith in rw z at P

  pub paired-passed : {at : ℕ} {p : Reader (List ℕ)} → Paired key value f n from 0 at → Steps key value f p → Passed (repeat n p) f from (Ok (0, record { at = at }))
  paired-passed P S = running-done (P.runs S) 0 (omega arith)

-- a key of the last two types, and what it leads to
pub key-steps :
    (strings : ℕ) (pools starts first last l : List ℕ) {key value : Bounds} {f : List ℕ} → length l ≡ 2
    → Quick (item_in strings pools starts first last (slice_index l 0)) key → Quick (item_in strings pools starts first last (slice_index l 1)) value
    → Steps key value f (key_in strings pools starts first last l)
unfolding forget
key-steps strings pools starts first last l two K W =
    record {
      over = λ A B.
          let P = way-last strings pools starts first last l (omega arith) (skips-passed (K.over A)) refl two (skips-passed (W.over B)) in
          record { says = sym P.says; inside = B.inside };
    }
