-- Hex digits two in a number, the first of them its low byte: told from other bytes, and reckoned. Assumes nothing.
use Rattle.std.specs.Prelude.{◌≡◌, refl, true, false, List, [], ◌∷◌, ℕ, ◌+◌, ◌*◌, ◌/◌, ◌%◌, ◌^◌, ◌≤◌, ◌<◌, length, get_or, set}
use Rattle.std.proofs.Common.{sym, ◌∙◌, ap, ap₂, subst, arith, length-set, get_or-set_same, get_or-set_other, ext_get_or}
use native.Nat.{ℕᴺ_discrete}
use Rattle.std.specs.Int.{w32, from_le_bytes}
use Rattle.std.specs.Int.Bits.{bit_and}
use Rattle.std.proofs.lemmas.Nat.{and_block, and_mask}
use Rattle.paper.specs.Scan.{nibble}
use Rattle.words.specs.Blocks.{value_of, value-small, glyph-value, Hexes, unhexed_from, unhexed-long, unhexed-at}

-- ── two digits ──

-- the bits of a mask in both bytes
both : (w m : ℕ) → m < 256 → bit_and w (m * 2 ^ 8 + m) ≡ bit_and (w / 256) m * 2 ^ 8 + bit_and (w % 256) m
both w m h =
    let w-is : w ≡ w / 256 * 2 ^ 8 + w % 256 = omega arith in
    ap (λ (x : ℕ). bit_and x (m * 2 ^ 8 + m)) w-is ∙ and_block 8 (w / 256) m (w % 256) m (omega arith) h

fours : (w : ℕ) → bit_and w 3855 ≡ w / 256 % 16 * 256 + w % 256 % 16
fours w = let z : bit_and w 3855 ≡ bit_and (w / 256) 15 * 256 + bit_and (w % 256) 15 = both w 15 (omega arith) in z ∙ ap₂ (λ (x y : ℕ). x * 256 + y) (and_mask (w / 256) 4) (and_mask (w % 256) 4)

twos : (w : ℕ) → bit_and w 771 ≡ w / 256 % 4 * 256 + w % 256 % 4
twos w = let z : bit_and w 771 ≡ bit_and (w / 256) 3 * 256 + bit_and (w % 256) 3 = both w 3 (omega arith) in z ∙ ap₂ (λ (x y : ℕ). x * 256 + y) (and_mask (w / 256) 2) (and_mask (w % 256) 2)

ones : (w : ℕ) → bit_and w 257 ≡ w / 256 % 2 * 256 + w % 256 % 2
ones w = let z : bit_and w 257 ≡ bit_and (w / 256) 1 * 256 + bit_and (w % 256) 1 = both w 1 (omega arith) in z ∙ ap₂ (λ (x y : ℕ). x * 256 + y) (and_mask (w / 256) 1) (and_mask (w % 256) 1)

-- their values, in a number again
abbrev pub values_of : ℕ → ℕ
values_of w = value_of (w % 256) + 256 * value_of (w / 256)

-- the top two bits of the second byte and of the first
tops : (w : ℕ) → w / 64 ≡ 4 * (w / 256) + w % 256 / 64
tops w = omega arith

module _ (b k : ℕ) (h : k < 4) where
  tops-low : (4 * b + k) % 256 ≡ 4 * (b % 64) + k
  tops-low = omega arith

  tops-high : (4 * b + k) / 256 ≡ b / 64
  tops-high = omega arith

  last-two : (4 * b + k) % 4 ≡ k
  last-two = omega arith

first-top : (w : ℕ) → w / 64 % 256 % 4 ≡ w % 256 / 64
first-top w =
    let small : w % 256 / 64 < 4 = omega arith in
    rw (tops w, tops-low (w / 256) (w % 256 / 64) small) (last-two (w / 256 % 64) (w % 256 / 64) small)

second-top : (w : ℕ) → w < 65536 → w / 64 / 256 % 4 ≡ w / 256 / 64
second-top w h = rw (tops w, tops-high (w / 256) (w % 256 / 64) (omega arith)) (omega arith)

-- a number of two bytes
module _ (a b : ℕ) (h : a < 256) where
  low_byte : (a + 256 * b) % 256 ≡ a
  low_byte = omega arith

  high_byte : (a + 256 * b) / 256 ≡ b
  high_byte = omega arith

-- what is summed up for them: no byte of it runs over
summed :
    (w : ℕ) → w < 65536
    → bit_and w 3855 + 9 * bit_and (w / 64) 771 ≡ w % 256 % 16 + 9 * (w % 256 / 64) + 256 * (w / 256 % 16 + 9 * (w / 256 / 64))
summed w h = rw (fours w, twos (w / 64), first-top w, second-top w h) (omega arith)

pub summed-small : (w : ℕ) → w < 65536 → (9 * bit_and (w / 64) 771 < 65536) × (bit_and w 3855 + 9 * bit_and (w / 64) 771 < 65536)
summed-small w h = let d = fours w in let l = twos (w / 64) in (omega arith, omega arith)

pub values-are : (w : ℕ) → w < 65536 → bit_and (bit_and w 3855 + 9 * bit_and (w / 64) 771) 3855 ≡ values_of w
unfolding value_of
values-are w h =
    let small : w % 256 % 16 + 9 * (w % 256 / 64) < 256 = omega arith in
    rw (fours (bit_and w 3855 + 9 * bit_and (w / 64) 771), summed w h, low_byte _ (w / 256 % 16 + 9 * (w / 256 / 64)) small, high_byte _ (w / 256 % 16 + 9 * (w / 256 / 64)) small) (omega arith)

-- the digits that two values are written as
pub record Written (v r : ℕ) : Type 0 where
  pub low : r % 256 ≡ 48 + v % 256 + 39 * ((v % 256 + 6) / 16)
  pub high : r / 256 ≡ 48 + v / 256 + 39 * ((v / 256 + 6) / 16)

-- two values
abbrev pub Values : ℕ → Type 0
Values v = (v % 256 < 16) × (v / 256 < 16)

last_one : (m r : ℕ) → r < 2 → (2 * m + r) % 2 ≡ r
last_one m r h = omega arith

pub letters-are : (v : ℕ) → Values v → bit_and ((v + 1542) / 16) 257 ≡ (v / 256 + 6) / 16 * 256 + (v % 256 + 6) / 16
letters-are v h =
    let z = ones ((v + 1542) / 16) in
    let low = h.0 in
    let high = h.1 in
    let parts : (v + 1542) / 16 ≡ 16 * (v / 256 + 6) + (v % 256 + 6) / 16 = omega arith in
    let low_parts : (v + 1542) / 16 % 256 ≡ 2 * (8 * ((v / 256 + 6) % 16)) + (v % 256 + 6) / 16 = omega arith in
    let high_parts : (v + 1542) / 16 / 256 ≡ (v / 256 + 6) / 16 = omega arith in
    let first : (v + 1542) / 16 % 256 % 2 ≡ (v % 256 + 6) / 16 = rw low_parts (last_one (8 * ((v / 256 + 6) % 16)) ((v % 256 + 6) / 16) (omega arith)) in
    let second : (v + 1542) / 16 / 256 % 2 ≡ (v / 256 + 6) / 16 = rw high_parts (omega arith) in
    omega arith

pub written-are : (v : ℕ) → Values v → Written v (v + 12336 + 39 * bit_and ((v + 1542) / 16) 257)
written-are v h =
    let z = letters-are v h in
    let low = h.0 in
    let small : 48 + v % 256 + 39 * ((v % 256 + 6) / 16) < 256 = omega arith in
    let sum : v + 12336 + 39 * bit_and ((v + 1542) / 16) 257 ≡ 48 + v % 256 + 39 * ((v % 256 + 6) / 16) + 256 * (48 + v / 256 + 39 * ((v / 256 + 6) / 16)) = rw z (omega arith) in
    record { low = rw sum (low_byte _ _ small); high = rw sum (high_byte _ _ small) }

-- a pair of digits, and the byte that they are
pub record Two (w b : ℕ) : Type 0 where
  pub first : nibble (w % 256) ≡ value_of (w % 256)
  pub second : nibble (w / 256) ≡ value_of (w / 256)
  pub byte : b ≡ value_of (w % 256) * 16 + value_of (w / 256)

module _ (w : ℕ) {v : ℕ} (is : v ≡ values_of w) where
  low_value : v % 256 ≡ value_of (w % 256)
  low_value = omega (arith, value-small (w % 256), value-small (w / 256))

  high_value : v / 256 ≡ value_of (w / 256)
  high_value = omega (arith, value-small (w % 256), value-small (w / 256))

  pub values-small : Values v
  values-small = (rw low_value (value-small (w % 256)), rw high_value (value-small (w / 256)))

  pub byte-is : v % 16 * 16 + v / 256 ≡ value_of (w % 256) * 16 + value_of (w / 256)
  byte-is = let same : v % 16 ≡ v % 256 = omega (arith, values-small.0) in rw (same, low_value, high_value)

  pub two : {r : ℕ} → Written v r → w ≡ r → Two w (v % 16 * 16 + v / 256)
  two {r} W e =
      record {
        first = glyph-value (w % 256) (value_of (w % 256)) (value-small (w % 256)) (rw low_value at (ap (λ (x : ℕ). x % 256) e ∙ W.low));
        second = glyph-value (w / 256) (value_of (w / 256)) (value-small (w / 256)) (rw high_value at (ap (λ (x : ℕ). x / 256) e ∙ W.high));
        byte = byte-is;
      }

-- ── 32 pairs ──

-- four bytes in a number
pub record Four (t : List ℕ) (p w : ℕ) : Type 0 where
  pub one : w % 65536 % 256 ≡ get_or t p 0
  pub two : w % 65536 / 256 ≡ get_or t (p + 1) 0
  pub three : w / 65536 % 256 ≡ get_or t (p + 2) 0
  pub four : w / 65536 / 256 ≡ get_or t (p + 3) 0

module _ (x y : ℕ) (h : x < 65536) where
  low_half : (x + 65536 * y) % 65536 ≡ x
  low_half = omega arith

  high_half : (x + 65536 * y) / 65536 ≡ y
  high_half = omega arith

le_four : (a b c d : ℕ) → from_le_bytes w32 (a ∷ b ∷ c ∷ d ∷ []) ≡ a + 256 * b + 65536 * (c + 256 * d)
le_four a b c d = omega arith

pub four_is :
    (t : List ℕ) (p w : ℕ) → ((i : ℕ) → get_or t i 0 < 256)
    → w ≡ from_le_bytes w32 (get_or t p 0 ∷ get_or t (p + 1) 0 ∷ get_or t (p + 2) 0 ∷ get_or t (p + 3) 0 ∷ [])
    → Four t p w
four_is t p w small is =
    let x = get_or t p 0 + 256 * get_or t (p + 1) 0 in
    let y = get_or t (p + 2) 0 + 256 * get_or t (p + 3) 0 in
    let h : get_or t p 0 + 256 * get_or t (p + 1) 0 < 65536 = omega (arith, small p, small (p + 1)) in
    rw (is, le_four (get_or t p 0) (get_or t (p + 1) 0) (get_or t (p + 2) 0) (get_or t (p + 3) 0)) (record {
      one = ap (λ (n : ℕ). n % 256) (low_half x y h) ∙ low_byte (get_or t p 0) (get_or t (p + 1) 0) (small p);
      two = ap (λ (n : ℕ). n / 256) (low_half x y h) ∙ high_byte (get_or t p 0) (get_or t (p + 1) 0) (small p);
      three = ap (λ (n : ℕ). n % 256) (high_half x y h) ∙ low_byte (get_or t (p + 2) 0) (get_or t (p + 3) 0) (small (p + 2));
      four = ap (λ (n : ℕ). n / 256) (high_half x y h) ∙ high_byte (get_or t (p + 2) 0) (get_or t (p + 3) 0) (small (p + 2));
    })

-- the first i numbers are the bytes from a place on
pub record Foured (t : List ℕ) (at : ℕ) (fs : List ℕ) (i : ℕ) : Type 0 where
  pub long : length fs ≡ 16
  pub each : (j : ℕ) → j < i → Four t (at + 4 * j) (get_or fs j 0)

pub foured-none : (t : List ℕ) (at : ℕ) (fs : List ℕ) → length fs ≡ 16 → Foured t at fs 0
foured-none t at fs h = record { long = h; each = λ j l. absurd (omega arith) }

module _ {t : List ℕ} {at : ℕ} {fs : List ℕ} {i : ℕ} (F : Foured t at fs i) where
  pub foured-on : {w : ℕ} → i < 16 → Four t (at + 4 * i) w → Foured t at (set fs i w) (i + 1)
  foured-on {w} lt W =
      record {
        long = length-set fs i w ∙ F.long;
        each = λ j l. elim (ℕᴺ_discrete j i) [
          | yes is ↦ rw (is, get_or-set_same fs i w 0 (omega (arith, F.long))) W
          | no ne ↦ rw (get_or-set_other fs i j w 0 ne) (F.each j (let z : j ≡ i → ⊥ = ne in omega arith))
        ];
      }

  pub foured-all : 16 ≤ i → Foured t at fs 16
  foured-all h = record { long = F.long; each = λ j l. F.each j (omega arith) }

-- the halves of the first i
pub record Halved (fs ps : List ℕ) (i : ℕ) : Type 0 where
  pub long : length ps ≡ 32
  pub even : (j : ℕ) → j < i → get_or ps (2 * j) 0 ≡ get_or fs j 0 % 65536
  pub odd : (j : ℕ) → j < i → get_or ps (2 * j + 1) 0 ≡ get_or fs j 0 / 65536

pub halved_none : (fs ps : List ℕ) → length ps ≡ 32 → Halved fs ps 0
halved_none fs ps h = record { long = h; even = λ j l. absurd (omega arith); odd = λ j l. absurd (omega arith) }

module _ {fs ps : List ℕ} {i : ℕ} (H : Halved fs ps i) where
  pub halved-on : i < 16 → Halved fs (set (set ps (2 * i) (get_or fs i 0 % 65536)) (2 * i + 1) (get_or fs i 0 / 65536)) (i + 1)
  halved-on lt =
      let x = get_or fs i 0 % 65536 in
      let y = get_or fs i 0 / 65536 in
      let once = length-set ps (2 * i) x in
      record {
        long = length-set (set ps (2 * i) x) (2 * i + 1) y ∙ once ∙ H.long;
        even = λ j l. get_or-set_other (set ps (2 * i) x) (2 * i + 1) (2 * j) y 0 (λ e. omega arith)
            ∙ elim (ℕᴺ_discrete j i) [
              | yes is ↦ rw is (get_or-set_same ps (2 * i) x 0 (omega (arith, H.long)))
              | no ne ↦ get_or-set_other ps (2 * i) (2 * j) x 0 (λ e. ne (omega arith)) ∙ H.even j (let z : j ≡ i → ⊥ = ne in omega arith)
            ];
        odd = λ j l. elim (ℕᴺ_discrete j i) [
          | yes is ↦ rw is (get_or-set_same (set ps (2 * i) x) (2 * i + 1) y 0 (omega (arith, H.long, once)))
          | no ne ↦
              get_or-set_other (set ps (2 * i) x) (2 * i + 1) (2 * j + 1) y 0 (λ e. ne (omega arith))
              ∙ get_or-set_other ps (2 * i) (2 * j + 1) x 0 (λ e. omega arith)
              ∙ H.odd j (let z : j ≡ i → ⊥ = ne in omega arith)
        ];
      }

  pub halved-all : 16 ≤ i → Halved fs ps 16
  halved-all h = record { long = H.long; even = λ j l. H.even j (omega arith); odd = λ j l. H.odd j (omega arith) }

-- the pairs are the bytes from a place on
pub record Paired (t : List ℕ) (at : ℕ) (ps : List ℕ) : Type 0 where
  pub long : length ps ≡ 32
  pub first : (j : ℕ) → j < 32 → get_or ps j 0 % 256 ≡ get_or t (at + 2 * j) 0
  pub second : (j : ℕ) → j < 32 → get_or ps j 0 / 256 ≡ get_or t (at + 2 * j + 1) 0

module _ {t : List ℕ} {at : ℕ} {fs ps : List ℕ} (F : Foured t at fs 16) (H : Halved fs ps 16) where
  -- a pair is two bytes
  abbrev Pair : ℕ → Type 0
  Pair j = (get_or ps j 0 % 256 ≡ get_or t (at + 2 * j) 0) × (get_or ps j 0 / 256 ≡ get_or t (at + 2 * j + 1) 0)

  pair-even : (j : ℕ) → j < 16 → Pair (2 * j)
  pair-even j l =
      let is : at + 4 * j ≡ at + 2 * (2 * j) = omega arith in
      let W = rw is at (F.each j l) in
      (rw (H.even j l) W.one, rw (H.even j l) W.two)

  pair-odd : (j : ℕ) → j < 16 → Pair (2 * j + 1)
  pair-odd j l =
      let W = F.each j l in
      let third : at + 4 * j + 2 ≡ at + 2 * (2 * j + 1) = omega arith in
      let fourth : at + 4 * j + 3 ≡ at + 2 * (2 * j + 1) + 1 = omega arith in
      (rw (H.odd j l) (rw third at W.three), rw (H.odd j l) (rw fourth at W.four))

  pair : (j : ℕ) → j < 32 → Pair j
  pair j l =
      elim (ℕᴺ_discrete (j % 2) 0) [
        | yes e ↦ (let is : 2 * (j / 2) ≡ j = omega arith in subst Pair is (pair-even (j / 2) (omega arith)))
        | no ne ↦ (let z : j % 2 ≡ 0 → ⊥ = ne in let is : 2 * (j / 2) + 1 ≡ j = omega arith in subst Pair is (pair-odd (j / 2) (omega arith)))
      ]

  pub paired : Paired t at ps
  paired = record { long = H.long; first = λ j l. (pair j l).0; second = λ j l. (pair j l).1 }

-- the first i are digits and their bytes are stored, if no other byte was met
pub record Unpaired (ps m : List ℕ) (others i : ℕ) : Type 0 where
  pub long : length m ≡ 32
  pub within : i ≤ 32
  pub so : others ≡ 0 → (j : ℕ) → j < i → Two (get_or ps j 0) (get_or m j 0)

pub unpaired-none : (ps m : List ℕ) → length m ≡ 32 → Unpaired ps m 0 0
unpaired-none ps m h = record { long = h; within = omega arith; so = λ z j l. absurd (omega arith) }

module _ {ps m : List ℕ} {others i : ℕ} (U : Unpaired ps m others i) (due : i < 32) where
  pub unpaired-on : {b : ℕ} → Two (get_or ps i 0) b → Unpaired ps (set m i b) others (i + 1)
  unpaired-on {b} T =
      record {
        long = length-set m i b ∙ U.long;
        within = omega arith;
        so = λ z j l. elim (ℕᴺ_discrete j i) [
          | yes is ↦ rw (is, get_or-set_same m i b 0 (omega (arith, U.long))) T
          | no ne ↦ rw (get_or-set_other m i j b 0 ne) (U.so z j (let z : j ≡ i → ⊥ = ne in omega arith))
        ];
      }

  pub unpaired-other : (b : ℕ) → Unpaired ps (set m i b) 1 (i + 1)
  unpaired-other b = record { long = length-set m i b ∙ U.long; within = omega arith; so = λ z. absurd (omega arith) }

pub unpaired-all : {ps m : List ℕ} {others i : ℕ} → Unpaired ps m others i → 32 ≤ i → others ≡ 0 → Unpaired ps m 0 32
unpaired-all U h z = record { long = U.long; within = omega arith; so = λ none j l. U.so z j (omega arith) }

-- ── a block ──

-- 32 bytes stand in hex at a place
pub record Unhexes (t : List ℕ) (at : ℕ) (m : List ℕ) : Type 0 where
  pub there : Hexes t at 64
  pub bytes : m ≡ unhexed_from 32 t at

pub no_block : {t : List ℕ} {at : ℕ} {m : List ℕ} → false ≡ true → Unhexes t at m
no_block h = let z : ◌≡◌ {A = ℕ} 0 1 = cc h in absurd (omega arith)

module _ {t : List ℕ} {at : ℕ} {ps m : List ℕ} (inside : at + 64 ≤ length t) (P : Paired t at ps) (U : Unpaired ps m 0 32) where
  half : (j : ℕ) → j < 32 → (nibble (get_or t (at + 2 * j) 0) ≡ value_of (get_or t (at + 2 * j) 0)) × (nibble (get_or t (at + 2 * j + 1) 0) ≡ value_of (get_or t (at + 2 * j + 1) 0))
  half j l = let T = U.so refl j l in (rw (P.first j l) at T.first, rw (P.second j l) at T.second)

  digit : (i : ℕ) → i < 64 → nibble (get_or t (at + i) 0) ≡ value_of (get_or t (at + i) 0)
  digit i l =
      let H = half (i / 2) (omega arith) in
      elim (ℕᴺ_discrete (i % 2) 0) [
        | yes e ↦ (let is : at + 2 * (i / 2) ≡ at + i = omega arith in rw is at H.0)
        | no ne ↦ (let z : i % 2 ≡ 0 → ⊥ = ne in let is : at + 2 * (i / 2) + 1 ≡ at + i = omega arith in rw is at H.1)
      ]

  stored : (j : ℕ) → j < 32 → get_or m j 0 ≡ get_or (unhexed_from 32 t at) j 0
  stored j l = (U.so refl j l).byte ∙ rw (P.first j l, P.second j l) (sym (unhexed-at 32 t at j l))

  pub block : Unhexes t at m
  block =
      record {
        there = record { inside = inside; each = digit };
        bytes = ext_get_or 0 m (unhexed_from 32 t at) (U.long ∙ sym (unhexed-long 32 t at)) (λ j l. stored j (omega (arith, U.long)));
      }
