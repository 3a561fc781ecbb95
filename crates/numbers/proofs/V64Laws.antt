-- A v64, read byte by byte. Assumes nothing.
use mathlib.Core.Path.{◌≡◌, refl, sym, ap, ◌∙◌}
use mathlib.Core.List.{List, [], ◌∷◌}
use Prim.Native.Nat.{ℕ, zero, suc, ◌+◌, ◌-◌, ◌*◌, ◌^◌, ◌≤◌, ◌<◌}
use native.Mathlib.Omega.{arith}
use native.Mathlib.Nat.{mul-add, mul_assoc, pow-suc, one-le-pow, mul-le-mul_left, lt_of_not-le}
use native.Mathlib.Decide.{dec_le}
use lib.Dec.{lit<}
use lib.ListN.{length, get_or}
use borrow.Author.Tests.{le-leb, lt-leb}
use Rattle.paper.specs.Reader.{Out, got, no, and_then, when◌then◌else◌, ◌>>=◌, give, from_start, started, bytes}
use Rattle.paper.specs.Numbers.{fixed, coding, low_first, v64}
use Rattle.numbers.specs.Begun.{Begun, Ended, one_byte}
use Rattle.numbers.specs.Turned.{TakenV64}
use Rattle.numbers.specs.Cursors.{Read, answer-got, answer-no}
use Rattle.std.specs.Prelude.{Ok, Err}
use Rattle.numbers.specs.declared.Fault.TheVariants.{Short}

-- ── one byte ──

no_byte : (f : List ℕ) (p : ℕ) → length f ≤ p → fixed 1 f p ≡ no 1 p
unfolding fixed bytes ◌>>=◌ give when◌then◌else◌
no_byte f p h = rw (lt-leb (p + 1) (length f) (omega arith))

-- ── the coding by cases, as code meets them ──

clash {ℓ} : {X : Type ℓ} → ◌≡◌ {A = ℕ} 0 1 → X
clash z = absurd (omega arith)

module _ (f : List ℕ) (p : ℕ) where
  cut : (k : ℕ) → length f ≤ p → coding k f p ≡ no 1 p
  unfolding coding ◌>>=◌
  cut zero h = rw (no_byte f p h)
  cut (suc k) h = rw (no_byte f p h)

  -- the last byte: the ninth, or one whose top bit is not set
  last : (k : ℕ) → p < length f → (0 < k → get_or f p 0 < 128) → coding k f p ≡ got (get_or f p 0 ∷ []) (p + 1)
  unfolding coding ◌>>=◌ give when◌then◌else◌
  last zero h lt = rw (one_byte f p h)
  last (suc k) h lt = rw (one_byte f p h, lt-leb 128 (get_or f p 0) (lt (omega arith)))

  more :
      (k : ℕ) → p < length f → 128 ≤ get_or f p 0
      → coding (suc k) f p ≡ and_then (coding k f (p + 1)) (λ bs e. got (get_or f p 0 ∷ bs) e)
  unfolding coding ◌>>=◌ give when◌then◌else◌
  more k h le = rw (one_byte f p h, le-leb 128 (get_or f p 0) le)

  -- a coding has a byte
  has-byte : (k e : ℕ) → coding k f p ≡ got [] e → ⊥
  has-byte k e h = at_place (dec_le (length f) p)
    where
      after : (b : ℕ) (o : Out (List ℕ)) → and_then o (λ bs m. got (b ∷ bs) m) ≡ got [] e → ⊥
      after b (got bs m) q = clash (cc q)
      after b (no n m) q = clash (cc q)

      with_byte : (k : ℕ) → coding k f p ≡ got [] e → p < length f → Dec (128 ≤ get_or f p 0) → ⊥
      with_byte zero q lt d = let z = sym (last zero lt (λ i. absurd (omega arith))) ∙ q in clash (cc z)
      with_byte (suc k) q lt (Dec.yes d) = after _ (coding k f (p + 1)) (sym (more k lt d) ∙ q)
      with_byte (suc k) q lt (Dec.no d) = let z = sym (last (suc k) lt (λ i. lt_of_not-le d)) ∙ q in clash (cc z)

      at_place : Dec (length f ≤ p) → ⊥
      at_place (Dec.yes d) = let z = sym (cut k d) ∙ h in clash (cc z)
      at_place (Dec.no d) = with_byte k h (lt_of_not-le d) (dec_le 128 (get_or f p 0))

-- ── from a coding to its number ──

-- what the rest of a coding makes of the bytes before it: x is their value, and w what the rest counts for
unfoldable pub finish : ℕ → ℕ → ℕ → Out (List ℕ) → Out ℕ
finish at x w (got bs e) = got (x + w * low_first bs) e
finish at x w (no n p) = no n at

-- a byte more before the rest
with-next :
    (at x w b : ℕ) (o : Out (List ℕ)) → ((e : ℕ) → o ≡ got [] e → ⊥)
    → finish at x w (and_then o (λ bs e. got (b ∷ bs) e)) ≡ finish at (x + w * (b - 128)) (w * 128) o
unfolding finish low_first
with-next at x w b (got [] e) h = absurd (h e refl)
with-next at x w b (got (c ∷ bs) e) h =
    let v : x + w * (b - 128 + 128 * low_first (c ∷ bs)) ≡ x + w * (b - 128) + w * 128 * low_first (c ∷ bs) =
    rw (mul-add, mul_assoc w 128 (low_first (c ∷ bs))) (omega arith) in
    rw v
with-next at x w b (no n p) h = refl

-- the whole coding, read from its start
abbrev held : ℕ → Out (List ℕ) → Out ℕ
held at o = and_then (from_start at o) (λ bs e. got (low_first bs) e)

v64-held : (f : List ℕ) (at : ℕ) → v64 f at ≡ held at (coding 8 f at)
unfolding v64 started ◌>>=◌ give
v64-held f at = refl

with_first :
    (at b : ℕ) (o : Out (List ℕ)) → ((e : ℕ) → o ≡ got [] e → ⊥)
    → held at (and_then o (λ bs e. got (b ∷ bs) e)) ≡ finish at (b - 128) 128 o
unfolding finish low_first
with_first at b (got [] e) h = absurd (h e refl)
with_first at b (got (c ∷ bs) e) h = refl
with_first at b (no n p) h = refl

-- ── the first byte ──

pub none-there : (f : List ℕ) (at : ℕ) → length f ≤ at → Read v64 (2 ^ 64) f at (Err (record { fault = Short; place = at }))
none-there f at h = answer-no (v64-held f at ∙ rw (cut f at 8 h)) (lit< tt)

pub one-there :
    (f : List ℕ) (at b : ℕ) → at < length f → b ≡ get_or f at 0 → b < 128
    → Read v64 (2 ^ 64) f at (Ok (b, (record { at = at + 1 })))
unfolding low_first
one-there f at b room is h =
    answer-got (v64-held f at ∙ rw (last f at 8 room (λ i. rw (sym is) h), sym is)) (omega arith) (omega arith)

-- ── the loop ──

-- x is the value of the bytes before p, w what the rest counts for, and `left` how many bytes may come before the ninth
pub record Reading (f : List ℕ) (at x w p left : ℕ) : Type 0 where
  pub means : v64 f at ≡ finish at x w (coding left f p)
  pub below : x < w
  pub power : w * 128 ^ left ≡ 2 ^ 56

pub reading-start : {f : List ℕ} {at low : ℕ} → Begun f at low → Reading f at low 128 (at + 1) 7
reading-start {f} {at} {low} B =
    let b : get_or f at 0 - 128 ≡ low = omega (arith, B.byte) in
    record {
      means =
          v64-held f at
          ∙ rw (more f at 7 B.room (omega (arith, B.byte)), with_first at (get_or f at 0) (coding 7 f (at + 1)) (has-byte f (at + 1) 7), b);
      below = B.small;
      power = refl;
    }

weight-most : (w k : ℕ) → w * 128 ^ k ≡ 2 ^ 56 → w ≤ 2 ^ 56
weight-most w k h = omega (arith, mul-le-mul_left w (one-le-pow k 128 (lit< tt)))

weight-next : (w k : ℕ) → w * 128 ^ suc k ≡ 2 ^ 56 → w * 128 * 128 ^ k ≡ 2 ^ 56
weight-next w k h = let z : w * (128 ^ k * 128) ≡ 2 ^ 56 = rw (pow-suc 128 k) at h in omega arith

module _ {f : List ℕ} {at x w p left : ℕ} (R : Reading f at x w p left) where
  -- every product and sum of the loop fits
  pub fits : (b : ℕ) → b < 256 → (w * b < 2 ^ 64) × (x + w * b < 2 ^ 64) × (w * 128 < 2 ^ 64)
  fits b h =
      let below = R.below in
      let most = weight-most w left R.power in
      let m = mul-le-mul_left {m = b} {n = 255} w (omega arith) in
      (omega arith, omega arith, omega arith)

  pub reading-cut : length f ≤ p → Read v64 (2 ^ 64) f at (Err (record { fault = Short; place = at }))
  unfolding finish
  reading-cut h = answer-no (R.means ∙ rw (cut f p left h)) (lit< tt)

  module _ (b : ℕ) (room : p < length f) (is : b ≡ get_or f p 0) where
    stops : (0 < left → b < 128) → v64 f at ≡ finish at x w (got (b ∷ []) (p + 1))
    stops h = R.means ∙ rw (last f p left room (λ i. rw (sym is) (h i)), sym is)

    pub reading-last :
        (y : ℕ) → y ≡ x + w * b → (0 < left → b < 128) → b < 256
        → Read v64 (2 ^ 64) f at (Ok (y, (record { at = p + 1 })))
    unfolding finish low_first
    reading-last y sum h small = rw sum (answer-got (stops h) (omega arith) (fits b small).1)

    pub reading-next :
        (y : ℕ) → y ≡ x + w * (b - 128) → 0 < left → 128 ≤ b → b < 256 → Reading f at y (w * 128) (p + 1) (left - 1)
    reading-next y sum some le small = rw sum (go left R some)
      where
        go : (k : ℕ) → Reading f at x w p k → 0 < k → Reading f at (x + w * (b - 128)) (w * 128) (p + 1) (k - 1)
        go zero S h = absurd (omega arith)
        go (suc k) S h =
            let below = S.below in
            let m = mul-le-mul_left {m = b - 128} {n = 127} w (omega arith) in
            let one_less : suc k - 1 ≡ k = omega arith in
            record {
              means =
                  S.means
                  ∙ rw (more f p k room (rw (sym is) le), sym is, with-next at x w b (coding k f (p + 1)) (has-byte f (p + 1) k), one_less);
              below = omega arith;
              power = rw one_less (weight-next w k S.power);
            }

-- the last byte is the second
pub two-read :
    (f : List ℕ) (at a b : ℕ) → at + 1 < length f → a ≡ get_or f at 0 → b ≡ get_or f (at + 1) 0 → 128 ≤ a → a < 256 → b < 128
    → Read v64 (2 ^ 64) f at (Ok ((a - 128 + 128 * b), (record { at = at + 2 })))
two-read f at a b room first second on small last =
    let end : at + 1 + 1 ≡ at + 2 = omega arith in
    let B : Begun f at (a - 128) = record { room = omega arith; byte = omega arith; small = omega arith } in
    rw end at (reading-last (reading-start B) b room second (a - 128 + 128 * b) refl (λ h. last) (omega arith))

-- and the third
pub three-read :
    (f : List ℕ) (at a b c : ℕ) → at + 2 < length f → a ≡ get_or f at 0 → b ≡ get_or f (at + 1) 0 → c ≡ get_or f (at + 2) 0 → 128 ≤ a → a < 256 → 128 ≤ b → b < 256 → c < 128
    → Read v64 (2 ^ 64) f at (Ok ((a - 128 + 128 * (b - 128 + 128 * c)), (record { at = at + 3 })))
three-read f at a b c room first second third on small more-on b-small end-byte =
    let place : at + 2 ≡ at + 1 + 1 = omega arith in
    let end : at + 1 + 1 + 1 ≡ at + 3 = omega arith in
    let sum : a - 128 + 128 * (b - 128 + 128 * c) ≡ a - 128 + 128 * (b - 128) + 128 * 128 * c = omega arith in
    let B : Begun f at (a - 128) = record { room = omega arith; byte = omega arith; small = omega arith } in
    let N = reading-next (reading-start B) b (omega arith) second _ refl (omega arith) more-on b-small in
    rw end at (reading-last N c (omega arith) (rw place at third) _ sum (λ h. end-byte) (omega arith))

-- ── where a coding ends ──

abbrev pub goes : {A : Type 0} → Out A → Out (Unit {0})
goes o = and_then o (λ a e. got tt e)

module _ (f : List ℕ) (p : ℕ) where
  -- this byte is the last
  pub goes_last : (k : ℕ) → p < length f → (0 < k → get_or f p 0 < 128) → goes (coding k f p) ≡ got tt (p + 1)
  goes_last k h lt = ap goes (last f p k h lt)

  -- another follows
  pub goes-more : (k : ℕ) → p < length f → 128 ≤ get_or f p 0 → goes (coding (suc k) f p) ≡ goes (coding k f (p + 1))
  goes-more k h le = ap goes (more f p k h le) ∙ go (coding k f (p + 1))
    where
      go : (o : Out (List ℕ)) → goes (and_then o (λ bs e. got (get_or f p 0 ∷ bs) e)) ≡ goes o
      go (got bs e) = refl
      go (no n m) = refl

  pub ended : {e : ℕ} → goes (coding 8 f p) ≡ got tt e → e ≤ length f → Ended f p e
  ended {e} says inside = record { says = ap goes (v64-held f p) ∙ go (coding 8 f p) says; inside = inside }
    where
      go : (o : Out (List ℕ)) → goes o ≡ got tt e → goes (held p o) ≡ got tt e
      go (got bs m) q = q
      go (no n m) q = clash (cc q)

-- ── taken: from p on, a coding and its number ──

abbrev pub valued : Out (List ℕ) → Out ℕ
valued o = and_then o (λ bs e. got (low_first bs) e)

module _ (f : List ℕ) (p : ℕ) where
  pub valued-last : (k : ℕ) → p < length f → (0 < k → get_or f p 0 < 128) → valued (coding k f p) ≡ got (get_or f p 0) (p + 1)
  unfolding low_first
  valued-last k h lt = ap valued (last f p k h lt)

  pub valued-more :
      (k : ℕ) {v e : ℕ} → p < length f → 128 ≤ get_or f p 0 → valued (coding k f (p + 1)) ≡ got v e
      → valued (coding (suc k) f p) ≡ got (get_or f p 0 - 128 + 128 * v) e
  unfolding low_first
  valued-more k {v} {e} h le is = ap valued (more f p k h le) ∙ go (coding k f (p + 1)) (has-byte f (p + 1) k) is
    where
      go :
          (o : Out (List ℕ)) → ((m : ℕ) → o ≡ got [] m → ⊥) → valued o ≡ got v e
          → valued (and_then o (λ bs m. got (get_or f p 0 ∷ bs) m)) ≡ got (get_or f p 0 - 128 + 128 * v) e
      go (got [] m) some q = absurd (some m refl)
      go (got (d ∷ bs) m) some q =
          let v-is : low_first (d ∷ bs) ≡ v = cc q in
          let e-is : m ≡ e = cc q in
          rw (v-is, e-is) refl
      go (no n m) some q = clash (cc q)

  -- a coding whose number is known goes there
  pub goes-valued : (k : ℕ) {v e : ℕ} → valued (coding k f p) ≡ got v e → goes (coding k f p) ≡ got tt e
  goes-valued k {v} {e} is = go (coding k f p) is
    where
      go : (o : Out (List ℕ)) → valued o ≡ got v e → goes o ≡ got tt e
      go (got bs m) q = let end : m ≡ e = cc q in rw end refl
      go (no n m) q = clash (cc q)

  pub taken-v64 :
      {x n : ℕ} → valued (coding 8 f p) ≡ got x (p + n) → 0 < n → n ≤ 9 → x < 2 ^ 64 → TakenV64 f p (record { number = x; next = record { at = p + n } })
  taken-v64 {x} {n} is some most below =
      record { says = v64-held f p ∙ go (coding 8 f p) is; on = omega arith; most = omega arith; below = below }
    where
      go : (o : Out (List ℕ)) → valued o ≡ got x (p + n) → held p o ≡ got x (p + n)
      go (got bs m) q = q
      go (no k m) q = clash (cc q)

-- ── taken, by a look at each of the first three bytes ──

taken-read : {f : List ℕ} {at x n : ℕ} → Read v64 (2 ^ 64) f at (Ok (x, (record { at = at + n }))) → 0 < n → n ≤ 9 → TakenV64 f at (record { number = x; next = record { at = at + n } })
taken-read R h k = record { says = sym R.says; on = omega arith; most = omega arith; below = R.below }

module _ {f : List ℕ} {at : ℕ} (room : at + 9 ≤ length f) (a : ℕ) (a-is : a ≡ get_or f at 0) where
  pub taken-one : a < 128 → TakenV64 f at (record { number = a; next = record { at = at + 1 } })
  taken-one h = taken-read (one-there f at a (omega arith) a-is h) (omega arith) (omega arith)

  module _ (on : 128 ≤ a) (small : a < 256) (b : ℕ) (b-is : b ≡ get_or f (at + 1) 0) where
    pub taken-two : b < 128 → TakenV64 f at (record { number = a - 128 + 128 * b; next = record { at = at + 2 } })
    taken-two h = taken-read (two-read f at a b (omega arith) a-is b-is on small h) (omega arith) (omega arith)

    pub taken-three :
        128 ≤ b → b < 256 → (c : ℕ) → c ≡ get_or f (at + 2) 0 → c < 128
        → TakenV64 f at (record { number = a - 128 + 128 * (b - 128 + 128 * c); next = record { at = at + 3 } })
    taken-three more-on b-small c c-is h = taken-read (three-read f at a b c (omega arith) a-is b-is c-is on small more-on b-small h) (omega arith) (omega arith)
