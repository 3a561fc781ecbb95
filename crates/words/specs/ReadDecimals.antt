-- Decimals read, by cases, as code meets them. Assumes nothing.
use Rattle.std.specs.Prelude.{◌≡◌, true, false, List, ℕ, ◌+◌, ◌-◌, ◌*◌, ◌%◌, ◌^◌, ◌≤◌, ◌<◌, ltb, length, get_or, drop}
use Rattle.std.proofs.Math.Path.{refl}
use Rattle.std.proofs.Common.{sym, ◌∙◌, arith, add-one, lt_of_not-le, pow-suc}
use Rattle.std.proofs.Math.Option.{none, some}
use Rattle.std.proofs.Math.Nat.{pow-le-pow_right}
use Rattle.std.proofs.Math.Decide.{dec_le}
use borrow.Author.Tests.{lt-ltb, le-ltb, le-leb, lt-leb, leb-false, eq-eqb, ne_eqb}
use Rattle.paper.specs.Reader.{when◌then◌else◌, got, no as bad, and_then}
use Rattle.paper.specs.Scan.{digit?, too_large?, digits_on, decimal_in, natural, or_none}
use Rattle.words.specs.Answers.{Peeked, Digit}
use Rattle.words.specs.ReadBytes.{here, here-or-end}

-- ── a digit ──

digit-in : (b : ℕ) → 48 ≤ b → b ≤ 57 → Digit b (b - 48)
unfolding digit?
digit-in b h k = record { value = λ l. (omega arith, rw (le-leb 48 b h, le-leb b 57 k)); none = λ l. absurd (omega arith) }

digit-below : (b d : ℕ) → b < 48 → 10 ≤ d → Digit b d
unfolding digit?
digit-below b d h k = record { value = λ l. absurd (omega arith); none = λ l. ((λ e. omega arith), rw (lt-leb 48 b h)) }

digit-above : (b d : ℕ) → 57 < b → 10 ≤ d → Digit b d
unfolding digit?
digit-above b d h k = record { value = λ l. absurd (omega arith); none = λ l. ((λ e. omega arith), rw (le-leb 48 b (omega arith), lt-leb b 57 h)) }

-- a byte below the digits goes round
pub digit-reckoned : (b : ℕ) → b ≤ 256 → Digit b ((b + 208) % 256)
digit-reckoned b h =
    elim (dec_le 48 b) [
      | no d ↦ (let low = lt_of_not-le d in digit-below b ((b + 208) % 256) low (omega arith))
      | yes d ↦ elim (dec_le b 57) [
        | yes k ↦ (let is : (b + 208) % 256 ≡ b - 48 = omega arith in rw is (digit-in b d k))
        | no k ↦ (let high = lt_of_not-le k in digit-above b ((b + 208) % 256) high (omega arith))
      ]
    ]

-- ── one digit more ──

pub large : (v d : ℕ) → 18446744073709551616 ≤ 10 * v + d → too_large? v d ≡ true
unfolding too_large?
large v d h = le-leb 18446744073709551616 (10 * v + d) h

pub not-large : (v d : ℕ) → 10 * v + d < 18446744073709551616 → too_large? v d ≡ false
unfolding too_large?
not-large v d h = lt-leb 18446744073709551616 (10 * v + d) h

-- beside the largest number without its last digit that digit decides
pub large-last : (v d : ℕ) → v ≡ 1844674407370955161 → too_large? v d ≡ ltb 5 d
large-last v d e =
    elim (dec_le 6 d) [
      | yes h ↦ large v d (omega arith) ∙ sym (lt-ltb 5 d h)
      | no h ↦ (let l : d < 6 = lt_of_not-le h in not-large v d (omega arith) ∙ sym (le-ltb 5 d (omega arith)))
    ]

pub fits : (v d : ℕ) → too_large? v d ≡ false → 10 * v + d < 18446744073709551616
unfolding too_large?
fits v d h = leb-false 18446744073709551616 (10 * v + d) h

-- k digits are read, of which 19 fit
module _ (k v d : ℕ) (l : v < 10 ^ k) (h : d < 10) where
  pub digits-room : k ≤ 18 → 10 * v + d < 18446744073709551616
  digits-room q = let m : 10 ^ k ≤ 10 ^ 18 = pow-le-pow_right (omega arith) q in omega arith

  pub digits-grow : 10 * v + d < 10 ^ (k + 1)
  digits-grow = rw (add-one, pow-suc) (omega arith)

-- ── a decimal ──

-- a byte that was seen, and its value as a digit
module _ {t : List ℕ} {at b d : ℕ} (k : Peeked t at b) (v : Digit b d) where
  pub digit-inside : d < 10 → at < length t
  digit-inside l = let q = (v.value l).0 in k.inside (omega arith)

  pub natural-not : 10 ≤ d → bad 20 0 ≡ natural t at
  unfolding natural decimal_in when◌then◌else◌
  natural-not l = here-or-end k (λ w. bad 20 0 ≡ decimal_in at w) (rw (ne_eqb b 48 (v.none l).0, (v.none l).1)) refl

  pub natural-nought : d ≡ 0 → got 0 (at + 1) ≡ natural t at
  unfolding natural decimal_in when◌then◌else◌
  natural-nought z = let q = (v.value (omega arith)).0 in rw (here k (omega arith), eq-eqb b 48 (omega arith))

  pub digits-end : (n : ℕ) → 10 ≤ d → digits_on n at (drop at t) ≡ got n at
  unfolding digits_on when◌then◌else◌
  digits-end n l = here-or-end k (λ w. digits_on n at w ≡ got n at) (rw (v.none l).1) refl

  module _ (l : d < 10) where
    is : b ≡ 48 + d
    is = (v.value l).0

    less : b - 48 ≡ d
    less = let q = is in omega arith

    byte : b < 256
    byte = let q = is in omega arith

    pub natural-starts : (d ≡ 0 → ⊥) → digits_on d (at + 1) (drop (at + 1) t) ≡ natural t at
    unfolding natural decimal_in when◌then◌else◌
    natural-starts n = rw (here k byte, ne_eqb b 48 (λ e. n (let q = is in omega arith)), (v.value l).1, less)

    pub digits-on : (n : ℕ) → too_large? n d ≡ false → digits_on n at (drop at t) ≡ digits_on (10 * n + d) (at + 1) (drop (at + 1) t)
    unfolding digits_on when◌then◌else◌
    digits-on n f = rw (here k byte, (v.value l).1, less, f)

    pub digits-large : (n : ℕ) → too_large? n d ≡ true → digits_on n at (drop at t) ≡ bad 20 0
    unfolding digits_on when◌then◌else◌
    digits-large n f = rw (here k byte, (v.value l).1, less, f)

-- ── digits that surely fit: v is the number of those from `at` up to p ──

pub record Sure (t : List ℕ) (at v p : ℕ) : Type 0 where
  pub behind : at ≤ p
  pub small : v < 10 ^ (p - at)
  pub same : digits_on v p (drop p t) ≡ natural t at

pub sure-start : {t : List ℕ} {at b d : ℕ} → Peeked t at b → Digit b d → d < 10 → (d ≡ 0 → ⊥) → Sure t at d (at + 1)
sure-start {t} {at} k v l n =
    let one : at + 1 - at ≡ 1 = omega arith in
    record { behind = omega arith; small = rw one (omega arith); same = natural-starts k v l n }

module _ {t : List ℕ} {at v p b d : ℕ} (S : Sure t at v p) (k : Peeked t p b) (g : Digit b d) where
  pub sure-end : 10 ≤ d → got v p ≡ natural t at
  sure-end h = sym (digits-end k g v h) ∙ S.same

  module _ (l : d < 10) (near : p < at + 19) where
    pub sure-room : 10 * v + d < 18446744073709551616
    sure-room = digits-room (p - at) v d S.small l (omega (arith, S.behind))

    pub sure-on : Sure t at (10 * v + d) (p + 1)
    sure-on =
        let more : p - at + 1 ≡ p + 1 - at = omega (arith, S.behind) in
        record {
          behind = omega (arith, S.behind);
          small = rw more at (digits-grow (p - at) v d S.small l);
          same = sym (digits-on k g l v (not-large v d sure-room)) ∙ S.same;
        }

-- ── a decimal or a dash ──

module _ {t : List ℕ} {at b : ℕ} (k : Peeked t at b) where
  pub is-dash : b ≡ 45 → or_none t at ≡ got none (at + 1)
  unfolding or_none when◌then◌else◌
  is-dash e = rw (eq-eqb (get_or t at 256) 45 (sym k.is ∙ e))

  pub no-dash : (b ≡ 45 → ⊥) → or_none t at ≡ and_then (natural t at) λ n e. got (some n) e
  unfolding or_none when◌then◌else◌
  no-dash n = rw (ne_eqb (get_or t at 256) 45 (λ e. n (k.is ∙ e)))
