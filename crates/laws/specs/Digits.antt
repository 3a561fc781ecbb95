-- The digits of a number: its decimal from the last digit, and a hex digit's value from its byte. Assumes nothing.
use Rattle.std.specs.Prelude.{◌≡◌, List, [], ◌∷◌, ◌++◌, ℕ, zero, suc, ◌+◌, ◌-◌, ◌*◌, ◌/◌, ◌%◌, ◌≤◌, ◌<◌, get_or}
use Rattle.std.proofs.Common.{◌∙◌, append_assoc, arith, lt_of_not-le, add-one, lt-ltb, le-ltb, le-leb}
use Rattle.std.proofs.Math.Decide.{dec_le}
use Rattle.std.proofs.lemmas.Bool.{lt-leb}
use Rattle.paper.specs.Reader.{when◌then◌else◌}
use Rattle.paper.specs.Listing.{glyph, shown, decimal, hex_digits}
use Rattle.paper.specs.Scan.{nibble}
use Rattle.laws.specs.Says.{Bytes}
use Rattle.laws.specs.Takes.{bytes-append}

-- ── a digit's byte ──

pub glyph-low : (d : ℕ) → d < 10 → glyph d ≡ 48 + d
unfolding glyph when◌then◌else◌
glyph-low d h = rw (lt-ltb d 10 h)

pub glyph-high : (d : ℕ) → 10 ≤ d → glyph d ≡ 87 + d
unfolding glyph when◌then◌else◌
glyph-high d h = rw (le-ltb d 10 h)

pub glyph-byte : (d : ℕ) → d < 16 → glyph d < 256
glyph-byte d h =
    elim (dec_le 10 d) [
      | yes n ↦ rw (glyph-high d n) (omega arith)
      | no n ↦ (let l = lt_of_not-le n in rw (glyph-low d l) (omega arith))
    ]

-- ── decimals ──

step-low : (k n : ℕ) → n < 10 → shown (suc k) n ≡ (48 + n) ∷ []
unfolding shown
step-low k n h = rw (lt-ltb n 10 h, shown, glyph-low n h)

step-high : (k n : ℕ) → 10 ≤ n → shown (suc k) n ≡ shown k (n / 10) ++ ((48 + n % 10) ∷ [])
unfolding shown
step-high k n h = rw (le-ltb n 10 h, shown, glyph-low (n % 10) (omega arith))

shown-same : (k j n : ℕ) → n < k → n < j → shown k n ≡ shown j n
shown-same zero j n h g = absurd (omega arith)
shown-same (suc k) zero n h g = absurd (omega arith)
shown-same (suc k) (suc j) n h g =
    elim (dec_le 10 n) [
      | no d ↦ (let l = lt_of_not-le d in rw (step-low k n l, step-low j n l))
      | yes d ↦ rw (step-high k n d, step-high j n d, shown-same k j (n / 10) (omega arith) (omega arith))
    ]

pub decimal-low : (n : ℕ) → n < 10 → decimal n ≡ (48 + n) ∷ []
unfolding decimal
decimal-low n h = rw add-one (step-low n n h)

pub decimal-high : (n : ℕ) → 10 ≤ n → decimal n ≡ decimal (n / 10) ++ ((48 + n % 10) ∷ [])
unfolding decimal
decimal-high n h = rw (add-one n, step-high n n h, shown-same n (n / 10 + 1) (n / 10) (omega arith) (omega arith))

-- one digit more
pub decimal-more : (v d : ℕ) → 0 < v → d < 10 → decimal (10 * v + d) ≡ decimal v ++ ((48 + d) ∷ [])
decimal-more v d p l =
    let q : (10 * v + d) / 10 ≡ v = omega arith in
    let r : (10 * v + d) % 10 ≡ d = omega arith in
    rw (decimal-high (10 * v + d) (omega arith), q, r)

-- a decimal is bytes, and whatever follows it, no dash and no separator comes first
pub record Figures (w : List ℕ) : Type 0 where
  pub bytes : Bytes w
  pub first : (rest : List ℕ) → 48 ≤ get_or (w ++ rest) 0 256

figures : (k n : ℕ) → n < k → Figures (decimal n)
figures zero n h = absurd (omega arith)
figures (suc k) n h =
    elim (dec_le 10 n) [
      | no d ↦ (let l = lt_of_not-le d in rw (decimal-low n l) (record { bytes = (omega arith, tt); first = λ rest. omega arith }))
      | yes d ↦
          (let ih = figures k (n / 10) (omega arith) in
          rw (decimal-high n d)
          (record {
            bytes = bytes-append (decimal (n / 10)) ((48 + n % 10) ∷ []) ih.bytes (omega arith, tt);
            first = λ rest. rw append_assoc (ih.first (((48 + n % 10) ∷ []) ++ rest));
          }))
    ]

pub decimal-figures : (n : ℕ) → Figures (decimal n)
decimal-figures n = figures (n + 1) n (omega arith)

-- ── hex digits ──

nibble-digit : (b : ℕ) → 48 ≤ b → b ≤ 57 → nibble b ≡ b - 48
unfolding nibble when◌then◌else◌
nibble-digit b h k = rw (le-ltb b 48 h, le-leb b 57 k)

nibble-letter : (b : ℕ) → 97 ≤ b → b ≤ 102 → nibble b ≡ b - 87
unfolding nibble when◌then◌else◌
nibble-letter b h k = rw (le-ltb b 48 (omega arith), lt-leb b 57 (omega arith), le-ltb b 97 h, le-leb b 102 k)

pub nibble-below : (b : ℕ) → b < 48 → nibble b ≡ 16
unfolding nibble when◌then◌else◌
nibble-below b h = rw (lt-ltb b 48 h)

nibble-between : (b : ℕ) → 57 < b → b < 97 → nibble b ≡ 16
unfolding nibble when◌then◌else◌
nibble-between b h k = rw (le-ltb b 48 (omega arith), lt-leb b 57 h, lt-ltb b 97 k)

nibble-above : (b : ℕ) → 102 < b → nibble b ≡ 16
unfolding nibble when◌then◌else◌
nibble-above b h = rw (le-ltb b 48 (omega arith), lt-leb b 57 (omega arith), le-ltb b 97 (omega arith), lt-leb b 102 h)

pub nibble-glyph : (d : ℕ) → d < 16 → nibble (glyph d) ≡ d
nibble-glyph d h =
    elim (dec_le 10 d) [
      | no n ↦ (let l = lt_of_not-le n in rw (glyph-low d l) (nibble-digit (48 + d) (omega arith) (omega arith) ∙ omega arith))
      | yes n ↦ rw (glyph-high d n) (nibble-letter (87 + d) (omega arith) (omega arith) ∙ omega arith)
    ]

-- a byte with a value is that value's digit
pub glyph-nibble : (b : ℕ) → (nibble b ≡ 16 → ⊥) → (nibble b < 16) × (glyph (nibble b) ≡ b)
glyph-nibble b n =
    elim (dec_le 48 b) [
      | no d ↦ absurd (n (nibble-below b (lt_of_not-le d)))
      | yes d ↦
          elim (dec_le b 57) [
            | yes e ↦ rw (nibble-digit b d e) (omega arith, glyph-low (b - 48) (omega arith) ∙ omega arith)
            | no e ↦
                elim (dec_le 97 b) [
                  | no f ↦ absurd (n (nibble-between b (lt_of_not-le e) (lt_of_not-le f)))
                  | yes f ↦
                      elim (dec_le b 102) [
                        | yes g ↦ rw (nibble-letter b f g) (omega arith, glyph-high (b - 87) (omega arith) ∙ omega arith)
                        | no g ↦ absurd (n (nibble-above b (lt_of_not-le g)))
                      ]
                ]
          ]
    ]

-- one digit more
pub hex_digits-more : (k v d : ℕ) → d < 16 → hex_digits (suc k) (16 * v + d) ≡ hex_digits k v ++ (glyph d ∷ [])
unfolding hex_digits
hex_digits-more k v d h =
    let q : (16 * v + d) / 16 ≡ v = omega arith in
    let r : (16 * v + d) % 16 ≡ d = omega arith in
    rw (q, r)
