-- Two's complement, by the half of a width's range, in a machine's terms: `of_z w64` are an i64's bits, and `to_z w64` reads
-- them. Assumes nothing.
use mathlib.Core.Path.{◌≡◌, refl, sym, ap, ◌∙◌}
use mathlib.Core.Bool.{true, false}
use Prim.Native.Nat.{ℕ, zero, suc, ◌+◌, ◌-◌, ◌*◌, ◌^◌, ◌/◌, ◌%◌, ◌≤◌, ◌<◌}
use native.Mathlib.Omega.{arith}
use native.Mathlib.Nat.{zero-add, lt_of_not-le, mod-lt, mod-eq_of_lt, mul-add-mod_self_right, pow-suc, pow-le-pow_right, one-le-pow}
use native.Mathlib.Decide.{dec_le}
use lib.Dec.{lit<}
use lib.IntN.{ℤ, pos, negsuc, neg_ℤ, ◌-ℤ◌, +ℤ_comm, -ℤ_one, +ℤ-neg_ℤ_cancel, neg_ℤ-+ℤ, neg_ℤ-neg_ℤ, pos-+ℤ-pos}
use lib.Signed.{mag, lt_z}
use mir.Syntax.{w64}
use mir.Val.{SFits, to_z, of_z}
use mir.Facts.{to_z-of_z, to_z_pos}
use borrow.Author.Tests.{lt-ltb, le-ltb, ltb-true}
use Rattle.paper.specs.Reader.{when◌then◌else◌}
use Rattle.paper.specs.Numbers.{signed, unsigned}
use Rattle.numbers.specs.Signs.{Bits, Half}
use Rattle.numbers.proofs.WriteLaws.{shifted}

-- ── half of a width's range ──

pub halved : (w h : ℕ) → 0 < w → w ≤ 8 → h ≡ 128 * 2 ^ (8 * (w - 1)) % 2 ^ 64 → Half w h
halved zero h some most is = absurd (omega arith)
halved (suc k) h some most is =
    let top = pow-le-pow_right {n = 256} (lit< tt) {i = k} {j = 7} (omega arith) in
    let same : suc k - 1 ≡ k = omega arith in
    let e : h ≡ 128 * 256 ^ k = is ∙ rw (same, shifted k) (mod-eq_of_lt (omega (arith, top))) in
    record {
      two = rw (pow-suc 256 k) (omega arith);
      some = omega (arith, one-le-pow k 256 (lit< tt));
      most = omega (arith, top);
      low = λ i. omega (arith, pow-le-pow_right {n = 256} (lit< tt) {i = k} {j = 6} (omega arith));
    }

-- half of what the widest holds is what an i64 has on either side of 0
pub widest : (w h : ℕ) → 8 ≤ w → w ≤ 8 → 256 ^ w ≡ h + h → h ≡ 2 ^ 63
widest w h low high two = let is : w ≡ 8 = omega arith in let two : 256 ^ 8 ≡ h + h = rw is at two in omega arith

-- ── from bits ──

down : (d : ℕ) → negsuc 0 -ℤ pos d ≡ negsuc d
down zero = refl
down (suc d) = ap (λ (n : ℕ). negsuc (suc n)) (zero-add d)

down-read : (d : ℕ) → d < 2 ^ 63 → negsuc 0 -ℤ to_z w64 d ≡ negsuc d
down-read d h = rw (to_z_pos w64 h) (down d)

pub down_fits : (d : ℕ) → d < 2 ^ 63 → SFits w64 (negsuc 0 -ℤ to_z w64 d)
down_fits d h = rw (down-read d h) (record { sfits = h })

module _ (x half : ℕ) (most : half ≤ 2 ^ 63) (w : ℕ) (two : 256 ^ w ≡ half + half) where
  pub low_half : x < half → to_z w64 x ≡ signed w x
  unfolding signed when◌then◌else◌
  low_half h = rw (lt-ltb x (256 ^ w / 2) (omega arith)) (to_z_pos w64 (omega arith))

  pub high_half :
      half ≤ x → x < half + half → to_z w64 (of_z w64 (negsuc 0 -ℤ to_z w64 (half - 1 - (x - half)))) ≡ signed w x
  unfolding signed when◌then◌else◌
  high_half h k =
      let d = half - 1 - (x - half) in
      let small : d < 2 ^ 63 = omega arith in
      let same : d ≡ 256 ^ w - 1 - x = omega arith in
      rw (le-ltb x (256 ^ w / 2) (omega arith)) (to_z-of_z (down_fits d small) ∙ down-read d small ∙ ap negsuc same)

-- ── from the bits of a width below the widest: both halves are moved up by a half, and then down again ──

over : (d h : ℕ) → pos (d + h) -ℤ pos h ≡ pos d
over d h = ap (λ (z : ℤ). z -ℤ pos h) (sym (pos-+ℤ-pos d h)) ∙ +ℤ-neg_ℤ_cancel (pos d) (pos h)

under : (a d : ℕ) → pos a -ℤ pos (suc d + a) ≡ negsuc d
under a d =
    ap (λ (z : ℤ). z -ℤ pos (suc d + a)) (sym (neg_ℤ-neg_ℤ (pos a)))
    ∙ +ℤ_comm (neg_ℤ (neg_ℤ (pos a))) (neg_ℤ (pos (suc d + a)))
    ∙ sym (neg_ℤ-+ℤ (pos (suc d + a)) (neg_ℤ (pos a)))
    ∙ ap neg_ℤ (over (suc d) a)

-- x moved up, and the half, as the machine has them
abbrev moved : ℕ → ℕ → ℤ
moved x half = to_z w64 ((x + half) % (half + half)) -ℤ to_z w64 half

module _ (x half : ℕ) (some : 0 < half) (most : half ≤ 2 ^ 62) (in-range : x < half + half) where
  low-moved : x < half → moved x half ≡ pos x
  low-moved h =
      let up : (x + half) % (half + half) ≡ x + half = mod-eq_of_lt (omega arith) in
      rw (up, to_z_pos w64 {n = x + half} (omega arith), to_z_pos w64 {n = half} (omega arith)) (over x half)

  high-moved : half ≤ x → moved x half ≡ negsuc (half + half - 1 - x)
  high-moved h =
      let turn : x + half ≡ 1 * (half + half) + (x - half) = omega arith in
      let up : (x + half) % (half + half) ≡ x - half = ap (λ (n : ℕ). n % (half + half)) turn ∙ mul-add-mod_self_right 1 (half + half) (x - half) ∙ mod-eq_of_lt (omega arith) in
      let all : half ≡ suc (half + half - 1 - x) + (x - half) = omega arith in
      rw (up, to_z_pos w64 {n = x - half} (omega arith), to_z_pos w64 {n = half} (omega arith))
      (ap (λ (n : ℕ). pos (x - half) -ℤ pos n) all ∙ under (x - half) (half + half - 1 - x))

  pub up_fits : SFits w64 (pos ((x + half) % (half + half)))
  up_fits = let some-range : 0 < half + half = omega arith in record { sfits = omega (arith, mod-lt (x + half) some-range) }

  pub moved-fits : SFits w64 (moved x half)
  moved-fits =
      elim (dec_le half x) [
        | yes h ↦ rw (high-moved h) (record { sfits = omega arith })
        | no h ↦ rw (low-moved (lt_of_not-le h)) (record { sfits = omega (arith, lt_of_not-le h) })
      ]

  pub moved_back : (w : ℕ) → 256 ^ w ≡ half + half → to_z w64 (of_z w64 (moved x half)) ≡ signed w x
  unfolding signed when◌then◌else◌
  moved_back w two =
      to_z-of_z moved-fits
      ∙ elim (dec_le half x) [
        | yes h ↦ (let same : half + half - 1 - x ≡ 256 ^ w - 1 - x = omega arith in rw (le-ltb x (256 ^ w / 2) (omega arith)) (high-moved h ∙ ap negsuc same))
        | no h ↦ rw (lt-ltb x (256 ^ w / 2) (omega (arith, lt_of_not-le h))) (low-moved (lt_of_not-le h))
      ]

-- ── to bits ──

up : (n : ℕ) → negsuc 0 -ℤ negsuc n ≡ pos n
up n = +ℤ_comm (negsuc 0) (pos (suc n)) ∙ -ℤ_one (pos (suc n))

-- z is negative, -1 - z is n, and the machine finds it so
pub record Below (half : ℕ) (z : ℤ) : Type 0 where
  pub n : ℕ
  pub small : n < half
  pub is : z ≡ negsuc n
  pub turned : negsuc 0 -ℤ to_z w64 (of_z w64 z) ≡ pos n
  pub read : to_z w64 (of_z w64 (negsuc 0 -ℤ to_z w64 (of_z w64 z))) ≡ pos n

-- z is the number n, and the machine finds it so
pub record Above (half : ℕ) (z : ℤ) : Type 0 where
  pub n : ℕ
  pub small : n < half
  pub is : z ≡ pos n
  pub read : to_z w64 (of_z w64 z) ≡ pos n

module _ (half : ℕ) (most : half ≤ 2 ^ 63) where
  back : (z : ℤ) → mag z < half → to_z w64 (of_z w64 z) ≡ z
  back z h = to_z-of_z {w = w64} (record { sfits = omega arith })

  pub is_below : (z : ℤ) → mag z < half → lt_z (to_z w64 (of_z w64 z)) (pos 0) ≡ true → Below half z
  is_below z h t = by_sign z h (rw (back z h) at t)
    where
      by_sign : (z : ℤ) → mag z < half → lt_z z (pos 0) ≡ true → Below half z
      by_sign (pos n) h t = absurd (omega (arith, ltb-true n 0 t))
      by_sign (negsuc n) h t =
          let turned : negsuc 0 -ℤ to_z w64 (of_z w64 (negsuc n)) ≡ pos n = rw (back (negsuc n) h) (up n) in
          record { n = n; small = h; is = refl; turned = turned; read = rw turned (back (pos n) h) }

  pub is-above : (z : ℤ) → mag z < half → lt_z (to_z w64 (of_z w64 z)) (pos 0) ≡ false → Above half z
  is-above z h t = by_sign z h (rw (back z h) at t)
    where
      by_sign : (z : ℤ) → mag z < half → lt_z z (pos 0) ≡ false → Above half z
      by_sign (pos n) h t = record { n = n; small = h; is = refl; read = back (pos n) h }
      by_sign (negsuc n) h t = let z : ◌≡◌ {A = ℕ} 0 1 = cc t in absurd (omega arith)

  module _ (w : ℕ) (two : 256 ^ w ≡ half + half) where
    pub bits_below : {z : ℤ} (n : ℕ) → n < half → z ≡ negsuc n → Bits w z (half + (half - 1 - n))
    unfolding unsigned
    bits_below n h e = record { same = rw e (omega arith); below = omega arith }

    pub bits_above : {z : ℤ} (n : ℕ) → n < half → z ≡ pos n → Bits w z n
    unfolding unsigned
    bits_above n h e = record { same = rw e; below = omega arith }
