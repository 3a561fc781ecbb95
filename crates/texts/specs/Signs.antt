-- Signed words whose sign is reckoned with. Assumes nothing.
use Rattle.std.specs.Prelude.{◌≡◌, refl, List, length}
use Rattle.std.proofs.Math.Path.{sym, ap}
use Rattle.std.proofs.Common.{◌∙◌, arith, add-zero, lt_of_not-le}
use Prim.Native.Nat.{ℕ, zero, suc, ◌+◌, ◌-◌, ◌^◌, ◌≤◌, ◌<◌}
use Rattle.std.proofs.Math.Decide.{dec_le}
use Rattle.paper.specs.Reader.{got, no as bad}
use Rattle.paper.specs.Scan.{natural, integer, negative, positive}
use Rattle.words.specs.Answers.{Peeked}
use Rattle.words.specs.ReadSigns.{minus, plus, negative-nought, negative-large, negative-bits, positive-large, positive-bits}
use Rattle.texts.specs.Elements.{whole_number, whole-refused, whole-low, whole-high, whole_wide}

-- the sign at a place has s bytes: 1 for a minus, and else 0
pub record Sign (t : List ℕ) (at s : ℕ) : Type 0 where
  pub small : s ≤ 1
  pub inside : 0 < s → at < length t
  pub minus : 0 < s → integer t at ≡ negative (natural t (at + s))
  pub plus : s ≡ 0 → integer t at ≡ positive (natural t (at + s))

module _ {t : List ℕ} {at b : ℕ} (seen : Peeked t at b) where
  pub sign-minus : b ≡ 45 → Sign t at 1
  sign-minus is = record { small = omega arith; inside = λ h. seen.inside (omega arith); minus = λ h. minus seen is; plus = λ z. absurd (omega arith) }

  pub sign-none : (b ≡ 45 → ⊥) → Sign t at 0
  sign-none other = record { small = omega arith; inside = λ h. absurd (omega arith); minus = λ h. absurd (omega arith); plus = λ z. rw add-zero (plus seen other) }

-- behind it is still a place
pub sign-end : (t : List ℕ) (at s most : ℕ) → Sign t at s → at ≤ most → length t ≤ most → at + s ≤ most
sign-end t at zero most S h k = omega arith
sign-end t at (suc s) most S h k = let i = S.inside (omega arith) in omega (arith, S.small)

-- the bits of the number n behind a sign of s bytes, in the range that has this half
unfoldable pub bits_of : ℕ → ℕ → ℕ → ℕ
bits_of half zero n = n
bits_of half (suc s) n = half + (half - n)

pub bits-plus : (half s n : ℕ) → s ≡ 0 → n ≡ bits_of half s n
unfolding bits_of
bits-plus half zero n z = refl
bits-plus half (suc s) n z = absurd (omega arith)

pub bits-minus : (half s n : ℕ) → (s ≡ 0 → ⊥) → half + (half - n) ≡ bits_of half s n
unfolding bits_of
bits-minus half zero n z = absurd (z refl)
bits-minus half (suc s) n z = refl

-- ── the ways out ──

module _ (w : ℕ) {half : ℕ} (narrow : half ≤ 2 ^ 63) (two : 256 ^ w ≡ half + half) (t : List ℕ) (at : ℕ) where
  pub signed-refused : (s : ℕ) → Sign t at s → bad 20 0 ≡ natural t (at + s) → bad 20 0 ≡ whole_number w t at
  unfolding negative positive
  signed-refused zero S h = whole-refused w narrow two t at (ap positive h ∙ sym (S.plus refl))
  signed-refused (suc s) S h = whole-refused w narrow two t at (ap negative h ∙ sym (S.minus (omega arith)))

  module _ (n d : ℕ) where
    behind-plus : Sign t at 0 → got n d ≡ natural t (at + 0) → positive (got n d) ≡ integer t at
    behind-plus S is = ap positive is ∙ sym (S.plus refl)

    behind-minus : (s : ℕ) → Sign t at (suc s) → got n d ≡ natural t (at + suc s) → negative (got n d) ≡ integer t at
    behind-minus s S is = ap negative is ∙ sym (S.minus (omega arith))

    -- too far from 0
    pub signed-far : (s : ℕ) → Sign t at s → got n d ≡ natural t (at + s) → half + s ≤ n → bad 20 0 ≡ whole_number w t at
    signed-far zero S is h =
        elim (dec_le 9223372036854775808 n) [
          | yes y ↦ whole-refused w narrow two t at (positive-large n d y ∙ behind-plus S is)
          | no y ↦ (let lt = lt_of_not-le y in whole_wide w narrow two t at n d (positive-bits n d lt ∙ behind-plus S is) (omega arith) (omega arith))
        ]
    signed-far (suc s) S is h =
        elim (dec_le n 9223372036854775808) [
          | yes y ↦ whole_wide w narrow two t at (18446744073709551615 - (n - 1)) d (negative-bits n d (omega arith) y ∙ behind-minus s S is) (omega arith) (omega (arith, S.small))
          | no y ↦ whole-refused w narrow two t at (negative-large n d (lt_of_not-le y) ∙ behind-minus s S is)
        ]

    -- a minus before 0
    pub signed-nought : (s : ℕ) → Sign t at s → got n d ≡ natural t (at + s) → n < s → bad 20 0 ≡ whole_number w t at
    signed-nought zero S is h = absurd (omega arith)
    signed-nought (suc s) S is h = whole-refused w narrow two t at (negative-nought n d (omega (arith, S.small)) ∙ behind-minus s S is)

    pub signed-taken : (s : ℕ) → Sign t at s → got n d ≡ natural t (at + s) → s ≤ n → n < half + s → got (bits_of half s n) d ≡ whole_number w t at
    unfolding bits_of
    signed-taken zero S is low high = whole-low w narrow two t at n d (positive-bits n d (omega arith) ∙ behind-plus S is) (omega arith)
    signed-taken (suc s) S is low high =
        let x = 18446744073709551615 - (n - 1) in
        let same : half + (half - n) ≡ half + (half - 1 - (18446744073709551615 - x)) = omega (arith, S.small) in
        ap (λ (k : ℕ). got k d) same
        ∙ whole-high w narrow two t at x d (negative-bits n d (omega arith) (omega (arith, S.small)) ∙ behind-minus s S is) (omega (arith, S.small)) (omega arith)
