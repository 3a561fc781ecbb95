-- Digits stored from the last. Assumes nothing.
use Rattle.std.specs.Prelude.{◌≡◌, refl, List, [], ◌∷◌, ◌++◌, ℕ, zero, suc, ◌+◌, ◌-◌, ◌*◌, ◌^◌, ◌/◌, ◌%◌, ◌≤◌, ◌<◌, min, length, replicate, set, take, drop}
use Rattle.std.proofs.Common.{sym, ◌∙◌, ap, arith, sub-one, lt_of_not-le, pow-suc, length-append, length-set}
use Rattle.std.proofs.Math.Nat.{min-eq_left}
use Rattle.std.proofs.Math.Decide.{dec_le}
use Rattle.std.proofs.lemmas.List.Edits.{sets, sets-eq}
use Rattle.std.proofs.lemmas.List.{set_comm}
use Rattle.std.proofs.Math.Seq.{take-append_seam}
use Rattle.lay.specs.Laid.{Laid, most, sets-append, laid-over}
use Rattle.paper.specs.Listing.{glyph, decimal, hex_digits}
use Rattle.words.specs.Decimals.{glyph-low, glyph-high, decimal-low, decimal-high}
use Rattle.words.specs.Hexes.{hex-over}

-- a store behind a text can come before it
set_before : (w l : List ℕ) (at j b : ℕ) → at + length w ≤ j → set (sets l at w) j b ≡ sets (set l j b) at w
set_before [] l at j b h = refl
set_before (a ∷ w) l at j b h =
    set_before w (set l at a) (suc at) j b (omega arith)
    ∙ ap (λ (m : List ℕ). sets m (suc at) w) (set_comm l at j a b (λ e. omega arith))

pub last-first : (w l : List ℕ) (at b : ℕ) → sets l at (w ++ (b ∷ [])) ≡ sets (set l (at + length w) b) at w
last-first w l at b = sets-append w (b ∷ []) l at ∙ set_before w l at (at + length w) b (omega arith)

-- ── decimals ──

-- 64 bits have at most 20 digits
digits-most : (k x : ℕ) → x < 10 ^ suc k → length (decimal x) ≤ suc k
digits-most zero x h = let small : x < 10 = omega arith in rw (decimal-low x small) (omega arith)
digits-most (suc k) x h =
    elim (dec_le 10 x) [
      | yes d ↦
          (let p = pow-suc 10 (suc k) in
          let fewer = digits-most k (x / 10) (omega arith) in
          rw (decimal-high x d, length-append) (omega arith))
      | no d ↦ rw (decimal-low x (lt_of_not-le d)) (omega arith)
    ]

pub decimal-most : (n x : ℕ) → x < 18446744073709551616 → n ≡ length (decimal x) → n ≤ 20
decimal-most n x h e = rw e (digits-most 19 x (omega arith))

-- digits in a local, taken from its front
module _ (n x : ℕ) {m : List ℕ} (is : m ≡ sets (replicate 20 0) 0 (decimal x)) (e : n ≡ length (decimal x)) (h : x < 18446744073709551616) where
  pub local-taken : take n m ≡ decimal x
  local-taken =
      let most-of = decimal-most n x h e in
      let fits : 0 + length (decimal x) ≤ 20 = omega arith in
      rw (is, e)
      (ap (λ (k : List ℕ). take (length (decimal x)) k) (sets-eq (decimal x) (replicate 20 0) 0 fits)
      ∙ take-append_seam (decimal x) (drop (0 + length (decimal x)) (replicate 20 0)))

  pub local-long : n ≡ length (take n m)
  local-long = e ∙ sym (ap (λ (k : List ℕ). length k) local-taken)

-- a text of n bytes, laid where there is no room, and where there is
module _ {l w : List ℕ} {at n : ℕ} (e : n ≡ length w) (h : length l ≤ most) where
  pub laid-counted : {r : ℕ} → length l ≤ at → r ≡ min (at + n) most → Laid l at w l r
  laid-counted le is = laid-over h le (rw (← e) is)

  pub laid-stored : {m : List ℕ} → at + n ≤ length l → m ≡ sets l at w → Laid l at w m (at + n)
  laid-stored fits is =
      record { bytes = is; next = rw (← e) (sym (min-eq_left (omega arith))); room = h }

-- ── hex ──

pub glyph-reckoned : (d : ℕ) → d < 16 → 48 + d + 39 * ((d + 6) / 16) ≡ glyph d
glyph-reckoned d h =
    elim (dec_le 10 d) [
      | yes k ↦ rw (glyph-high d k) (omega arith)
      | no k ↦ rw (glyph-low d (lt_of_not-le k)) (omega arith)
    ]

pub hex-long : (k n : ℕ) → length (hex_digits k n) ≡ k
unfolding hex_digits
hex-long zero n = refl
hex-long (suc k) n = rw (length-append, hex-long k (n / 16)) (omega arith)

-- the last k digits of `left` are to be stored, and with those that are they are the whole
pub record Hexed (l : List ℕ) (at n x : ℕ) (m : List ℕ) (k left : ℕ) : Type 0 where
  pub long : length m ≡ length l
  pub within : k ≤ n
  pub same : sets m at (hex_digits k left) ≡ sets l at (hex_digits n x)

pub hexed-start : (l : List ℕ) (at n x : ℕ) → Hexed l at n x l n x
hexed-start l at n x = record { long = refl; within = omega arith; same = refl }

last-digit : (k n : ℕ) (m : List ℕ) (at : ℕ) → 0 < k
    → sets m at (hex_digits k n) ≡ sets (set m (at + (k - 1)) (glyph (n % 16))) at (hex_digits (k - 1) (n / 16))
unfolding hex_digits
last-digit zero n m at h = absurd (omega arith)
last-digit (suc k) n m at h =
    rw sub-one
    (last-first (hex_digits k (n / 16)) m at (glyph (n % 16))
    ∙ ap (λ (i : ℕ). sets (set m (at + i) (glyph (n % 16))) at (hex_digits k (n / 16))) (hex-long k (n / 16)))

module _ {l : List ℕ} {at n x : ℕ} {m : List ℕ} {k left : ℕ} (g : Hexed l at n x m k left) where
  pub hexed-on : 0 < k → Hexed l at n x (set m (at + (k - 1)) (glyph (left % 16))) (k - 1) (left / 16)
  hexed-on h =
      record {
        long = length-set m (at + (k - 1)) (glyph (left % 16)) ∙ g.long;
        within = omega (arith, g.within);
        same = sym (last-digit k left m at h) ∙ g.same;
      }

  pub hexed-done : k ≤ 0 → m ≡ sets l at (hex_digits n x)
  hexed-done h = rw (hex-over k left h) at g.same
