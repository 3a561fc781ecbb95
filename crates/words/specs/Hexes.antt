-- Hex digits written, from the first and from the last. Assumes nothing.
use Rattle.std.specs.Prelude.{◌≡◌, refl, List, [], ◌∷◌, ◌++◌, ℕ, zero, suc, ◌+◌, ◌-◌, ◌*◌, ◌/◌, ◌%◌, ◌^◌, ◌≤◌, ◌<◌, length, get_or, drop}
use Rattle.std.proofs.Common.{sym, ◌∙◌, ap, arith, add-one, sub-one, pow-suc, div-one, pow-add, drop_of_length-le, drop-cons}
use Rattle.std.proofs.Math.Nat.{pow-zero, pow-succ', pow-le-pow_right, div-eq_of_lt, div-div-eq-div-mul}
use Rattle.paper.specs.Lists.{flat}
use Rattle.paper.specs.Listing.{glyph, hex_digits, hex}

-- ── one number ──

pub hex-first : (k n : ℕ) → hex_digits (suc k) n ≡ glyph (n / 16 ^ k % 16) ∷ hex_digits k n
unfolding hex_digits
hex-first zero n = rw (pow-zero, div-one)
hex-first (suc k) n =
    let q : n / 16 / 16 ^ k ≡ n / 16 ^ suc k = div-div-eq-div-mul n 16 (16 ^ k) ∙ ap (λ (m : ℕ). n / m) (sym (pow-succ' 16 k)) in
    rw (hex-first k (n / 16), q)

-- the same as code goes: one digit less to write
pub hex-next : (k n : ℕ) → 0 < k → hex_digits k n ≡ (glyph (n / 16 ^ (k - 1) % 16) ∷ []) ++ hex_digits (k - 1) n
hex-next zero n h = absurd (omega arith)
hex-next (suc k) n h = rw sub-one (hex-first k n)

pub hex-over : (k n : ℕ) → k ≤ 0 → hex_digits k n ≡ []
unfolding hex_digits
hex-over zero n h = refl
hex-over (suc k) n h = absurd (omega arith)

-- sixteen to the k by shifting
pub shifted : (k : ℕ) → 2 ^ (4 * k) ≡ 16 ^ k
shifted zero = rw (pow-zero 2, pow-zero 16)
shifted (suc k) =
    let e : 4 * suc k ≡ 4 * k + 4 = omega arith in
    rw (e, pow-add 2 (4 * k) 4, shifted k) (sym (pow-suc 16 k))

-- 64 bits are sixteen digits
pub no_digit : (x k : ℕ) → x < 18446744073709551616 → 16 ≤ k → x / 16 ^ k ≡ 0
no_digit x k h le =
    let m : 16 ^ 16 ≤ 16 ^ k = pow-le-pow_right (omega arith) le in
    div-eq_of_lt (omega arith)

-- ── bytes ──

pub hex-pair : (b : ℕ) → b < 256 → (glyph (b / 16) ∷ []) ++ (glyph (b % 16) ∷ []) ≡ hex_digits 2 b
unfolding hex_digits
hex-pair b h = let q : b / 16 % 16 ≡ b / 16 = omega arith in rw q

pub hex-more : (s : List ℕ) (i : ℕ) → i < length s → hex (drop i s) ≡ hex_digits 2 (get_or s i 0) ++ hex (drop (i + 1) s)
unfolding hex flat
hex-more s i h = rw (drop-cons s i 0 h, add-one)

pub hex-none : (s : List ℕ) (i : ℕ) → length s ≤ i → hex (drop i s) ≡ []
unfolding hex flat
hex-none s i h = rw (drop_of_length-le s h)
