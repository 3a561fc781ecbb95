-- Words that surely fit, stored with no test: decimals four digits at a time. Assumes nothing.
use Rattle.std.specs.Prelude.{◌≡◌, refl, List, [], ◌∷◌, ◌++◌, length, get_or, set, drop}
use Rattle.std.proofs.Common.{sym, ◌∙◌, ap, append_assoc, append-nil, lt_of_not-le, add-zero, pow-suc, div-one, length-append, length-set}
use Prim.Native.Nat.{ℕ, zero, suc, ◌+◌, ◌-◌, ◌*◌, ◌^◌, ◌/◌, ◌%◌, ◌≤◌, ◌<◌}
use native.Mathlib.Omega.{arith}
use Rattle.std.proofs.Math.Nat.{min-eq_left, pow-zero, pow-succ', one-le-pow, div-div-eq-div-mul}
use Rattle.std.proofs.Math.Decide.{dec_le}
use Rattle.std.proofs.lemmas.List.Edits.{sets}
use Rattle.std.proofs.Math.Seq.{set-set}
use Rattle.lay.specs.Laid.{Laid, most, sets-append}
use Rattle.paper.specs.Lists.{flat}
use Rattle.paper.specs.Numbers.{signed}
use Rattle.paper.specs.Listing.{glyph, decimal, decimalℤ, hex}
use Rattle.words.specs.Decimals.{glyph-low, decimal-low, decimal-high}
use Rattle.words.specs.Signs.{bits-low, bits-high}
use Rattle.words.specs.Hexes.{hex-pair, hex-more, hex-none}
use Rattle.words.specs.Backwards.{hex-long}

-- `m` is `l` with the text `w` from place `at`, and `r` is the place behind it: there was room
pub record Stored (l : List ℕ) (at : ℕ) (w m : List ℕ) (r : ℕ) : Type 0 where
  pub bytes : m ≡ sets l at w
  pub next : r ≡ at + length w

-- what was stored within the room is laid
pub stored-laid : {l w m : List ℕ} {at r : ℕ} → length l ≤ most → r ≤ length l → Stored l at w m r → Laid l at w m r
stored-laid h fits S =
    record { bytes = S.bytes; next = S.next ∙ sym (min-eq_left (omega (arith, S.next))); room = h }

-- one text behind the other
pub stored-then : {l m n v w : List ℕ} {at p r : ℕ} → Stored l at v m p → Stored m p w n r → Stored l at (v ++ w) n r
stored-then {l} {m} {n} {v} {w} {at} {p} {r} a b =
    record {
      bytes = b.bytes ∙ rw (a.bytes, a.next) (sym (sets-append v w l at));
      next = rw (length-append v w) (omega (arith, a.next, b.next));
    }

-- the same text in other words
pub stored-as : {l m v w : List ℕ} {at r : ℕ} → Stored l at v m r → v ≡ w → Stored l at w m r
stored-as {l} {m} {v} {w} {at} {r} a e = rw e at a

-- ── the last digits of a number ──

unfoldable pub lasts : ℕ → ℕ → List ℕ
lasts zero x = []
lasts (suc k) x = lasts k (x / 10) ++ (glyph (x % 10) ∷ [])

pub lasts-long : (k x : ℕ) → length (lasts k x) ≡ k
unfolding lasts
lasts-long zero x = refl
lasts-long (suc k) x = rw (length-append, lasts-long k (x / 10)) (omega arith)

ten-more : (k x : ℕ) → x / 10 / 10 ^ k ≡ x / 10 ^ suc k
ten-more k x = div-div-eq-div-mul x 10 (10 ^ k) ∙ ap (λ (m : ℕ). x / m) (sym (pow-succ' 10 k))

-- the last k, and those before them
pub lasts-add : (j k x : ℕ) → lasts j (x / 10 ^ k) ++ lasts k x ≡ lasts (j + k) x
unfolding lasts
lasts-add j zero x = rw (pow-zero, div-one, append-nil, add-zero)
lasts-add j (suc k) x =
    let e : j + suc k ≡ suc (j + k) = omega arith in
    rw (e, ← lasts-add j k (x / 10), ten-more k x)
    (sym (append_assoc (lasts j (x / 10 ^ suc k)) (lasts k (x / 10)) (glyph (x % 10) ∷ [])))

-- a number is the digits before its last k, and the last k
pub decimal-split : (k x : ℕ) → 10 ^ k ≤ x → decimal x ≡ decimal (x / 10 ^ k) ++ lasts k x
unfolding lasts
decimal-split zero x h = rw (pow-zero, div-one, append-nil)
decimal-split (suc k) x h =
    let p = pow-suc 10 k in
    let one : 1 ≤ 10 ^ k = one-le-pow k 10 (omega arith) in
    let big : 10 ≤ x = omega arith in
    rw (decimal-high x big, decimal-split k (x / 10) (omega arith), ten-more k x)
    (append_assoc (decimal (x / 10 ^ suc k)) (lasts k (x / 10)) (glyph (x % 10) ∷ []))

pub decimal-longer : (k x : ℕ) → 10 ^ k ≤ x → k + length (decimal (x / 10 ^ k)) ≡ length (decimal x)
decimal-longer k x h = rw (decimal-split k x h, length-append, lasts-long k x) (omega arith)

-- the last k digits stored behind those before them
pub stored_more : {l m n : List ℕ} {at p x : ℕ} (k : ℕ) → 10 ^ k ≤ x → Stored l at (decimal (x / 10 ^ k)) m p → n ≡ sets m p (lasts k x) → Stored l at (decimal x) n (p + k)
stored_more {x = x} k h S is = stored-as (stored-then S (record { bytes = is; next = rw (lasts-long k x) })) (sym (decimal-split k x h))

-- two runs of last digits, one behind the other
pub sets-lasts : (l : List ℕ) {m n : List ℕ} (at j k x : ℕ) → m ≡ sets l at (lasts j (x / 10 ^ k)) → n ≡ sets m (at + j) (lasts k x) → n ≡ sets l at (lasts (j + k) x)
sets-lasts l {m} {n} at j k x e h =
    h
    ∙ ap (λ (i : ℕ). sets m (at + i) (lasts k x)) (sym (lasts-long j (x / 10 ^ k)))
    ∙ rw e (sym (sets-append (lasts j (x / 10 ^ k)) (lasts k x) l at))
    ∙ ap (sets l at) (lasts-add j k x)

-- four of them, from two halves
four_are : (x : ℕ) → lasts 4 x ≡ (48 + x / 100 % 100 / 10) ∷ (48 + x / 100 % 100 % 10) ∷ (48 + x % 100 / 10) ∷ (48 + x % 100 % 10) ∷ []
unfolding lasts
four_are x =
    let a : x / 10 / 10 / 10 % 10 ≡ x / 100 % 100 / 10 = omega arith in
    let b : x / 10 / 10 % 10 ≡ x / 100 % 100 % 10 = omega arith in
    let c : x / 10 % 10 ≡ x % 100 / 10 = omega arith in
    let d : x % 10 ≡ x % 100 % 10 = omega arith in
    rw (a, b, c, d, glyph-low (x / 100 % 100 / 10) (omega arith), glyph-low (x / 100 % 100 % 10) (omega arith), glyph-low (x % 100 / 10) (omega arith), glyph-low (x % 100 % 10) (omega arith))

pub four-stored :
    (l : List ℕ) (at x : ℕ)
    → set (set (set (set l at (48 + x / 100 % 100 / 10)) (at + 1) (48 + x / 100 % 100 % 10)) (at + 2) (48 + x % 100 / 10)) (at + 3) (48 + x % 100 % 10)
    ≡ sets l at (lasts 4 x)
four-stored l at x =
    let one : at + 1 ≡ suc at = omega arith in
    let two : at + 2 ≡ suc (suc at) = omega arith in
    let three : at + 3 ≡ suc (suc (suc at)) = omega arith in
    rw (four_are x, one, two, three)

-- ── a number of at most four digits ──

-- 1 from the bound up, and 0 below it
abbrev pub Reached : ℕ → ℕ → ℕ → Type 0
Reached x bound r = (bound ≤ x → r ≡ 1) × (x < bound → r ≡ 0)

pub digit-stored : {l : List ℕ} {at x : ℕ} → x < 10 → Stored l at (decimal x) (set l at (48 + x)) (at + 1)
digit-stored {l} {at} {x} h = record { bytes = rw (decimal-low x h, glyph-low x h); next = rw (decimal-low x h) }

decimal-two : (x : ℕ) → 10 ≤ x → x < 100 → decimal x ≡ (48 + x / 10) ∷ (48 + x % 10) ∷ []
decimal-two x h k = rw (decimal-high x h, decimal-low (x / 10) (omega arith), glyph-low (x / 10) (omega arith), glyph-low (x % 10) (omega arith))

decimal-three : (x : ℕ) → 100 ≤ x → x < 1000 → decimal x ≡ (48 + x / 10 / 10) ∷ (48 + x / 10 % 10) ∷ (48 + x % 10) ∷ []
decimal-three x h k = rw (decimal-high x (omega arith), decimal-two (x / 10) (omega arith) (omega arith), glyph-low (x % 10) (omega arith))

decimal-four : (x : ℕ) → 1000 ≤ x → x < 10000 → decimal x ≡ (48 + x / 10 / 10 / 10) ∷ (48 + x / 10 / 10 % 10) ∷ (48 + x / 10 % 10) ∷ (48 + x % 10) ∷ []
decimal-four x h k = rw (decimal-high x (omega arith), decimal-three (x / 10) (omega arith) (omega arith), glyph-low (x % 10) (omega arith))

-- its digits, each at the place that those before it leave it; one that it has not is stored over
module _ (l : List ℕ) (at x : ℕ) {i j k : ℕ} (high : x < 10000) (I : Reached x 1000 i) (J : Reached x 100 j) (K : Reached x 10 k) where
  unfoldable short : List ℕ
  short = set (set (set (set l at (48 + x / 100 / 10)) (at + i) (48 + x / 100 % 10)) (at + i + j) (48 + x % 100 / 10)) (at + i + j + k) (48 + x % 100 % 10)

  one : x < 10 → Stored l at (decimal x) short (at + i + j + k + 1)
  unfolding short
  one h =
      let p : at + i ≡ at = omega (arith, I.1 (omega arith)) in
      let q : at + i + j ≡ at = omega (arith, J.1 (omega arith)) in
      let r : at + i + j + k ≡ at = omega (arith, K.1 h) in
      let d : x % 100 % 10 ≡ x = omega arith in
      record {
        bytes = rw (r, q, p, set-set, set-set, set-set, d, decimal-low x h, glyph-low x h);
        next = rw (decimal-low x h) (omega arith);
      }

  two : 10 ≤ x → x < 100 → Stored l at (decimal x) short (at + i + j + k + 1)
  unfolding short
  two g h =
      let p : at + i ≡ at = omega (arith, I.1 (omega arith)) in
      let q : at + i + j ≡ at = omega (arith, J.1 h) in
      let r : at + i + j + k ≡ suc at = omega (arith, K.0 g) in
      let d : x % 100 ≡ x = omega arith in
      record {
        bytes = rw (r, q, p, set-set, set-set, d, decimal-two x g h);
        next = rw (decimal-two x g h) (omega arith);
      }

  three : 100 ≤ x → x < 1000 → Stored l at (decimal x) short (at + i + j + k + 1)
  unfolding short
  three g h =
      let p : at + i ≡ at = omega (arith, I.1 h) in
      let q : at + i + j ≡ suc at = omega (arith, J.0 g) in
      let r : at + i + j + k ≡ suc (suc at) = omega (arith, K.0 (omega arith)) in
      let b : x / 100 % 10 ≡ x / 10 / 10 = omega arith in
      let c : x % 100 / 10 ≡ x / 10 % 10 = omega arith in
      let d : x % 100 % 10 ≡ x % 10 = omega arith in
      record {
        bytes = rw (r, q, p, set-set, b, c, d, decimal-three x g h);
        next = rw (decimal-three x g h) (omega arith);
      }

  four : 1000 ≤ x → Stored l at (decimal x) short (at + i + j + k + 1)
  unfolding short
  four g =
      let p : at + i ≡ suc at = omega (arith, I.0 g) in
      let q : at + i + j ≡ suc (suc at) = omega (arith, J.0 (omega arith)) in
      let r : at + i + j + k ≡ suc (suc (suc at)) = omega (arith, K.0 (omega arith)) in
      let a : x / 100 / 10 ≡ x / 10 / 10 / 10 = omega arith in
      let b : x / 100 % 10 ≡ x / 10 / 10 % 10 = omega arith in
      let c : x % 100 / 10 ≡ x / 10 % 10 = omega arith in
      let d : x % 100 % 10 ≡ x % 10 = omega arith in
      record {
        bytes = rw (r, q, p, a, b, c, d, decimal-four x g high);
        next = rw (decimal-four x g high) (omega arith);
      }

  pub short-stored :
      Stored l at (decimal x)
      (set (set (set (set l at (48 + x / 100 / 10)) (at + i) (48 + x / 100 % 10)) (at + i + j) (48 + x % 100 / 10)) (at + i + j + k) (48 + x % 100 % 10))
      (at + i + j + k + 1)
  unfolding short
  short-stored =
      elim (dec_le 10 x) [
        | no d ↦ one (lt_of_not-le d)
        | yes d ↦
            elim (dec_le 100 x) [
              | no e ↦ two d (lt_of_not-le e)
              | yes e ↦
                  elim (dec_le 1000 x) [
                    | no f ↦ three e (lt_of_not-le f)
                    | yes f ↦ four f
                  ]
            ]
      ]

pub short-long : (x : ℕ) {i j k : ℕ} → x < 10000 → Reached x 1000 i → Reached x 100 j → Reached x 10 k → 1 + k + j + i ≡ length (decimal x)
short-long x h I J K = omega (arith, (short-stored [] 0 x h I J K).next)

-- ── a sign ──

decimal-some : (x : ℕ) → 0 < length (decimal x)
decimal-some x =
    elim (dec_le 10 x) [
      | yes d ↦ rw (decimal-high x d, length-append) (omega arith)
      | no d ↦ rw (decimal-low x (lt_of_not-le d)) (omega arith)
    ]

-- what stands where a text begins is stored over
sets_over : (l : List ℕ) (at b : ℕ) (w : List ℕ) → 0 < length w → sets (set l at b) at w ≡ sets l at w
sets_over l at b [] h = absurd (omega arith)
sets_over l at b (a ∷ w) h = rw (set-set l at b a)

-- the size of what these bits stand for
abbrev pub Size : ℕ → ℕ → Type 0
Size bits size = (bits < 9223372036854775808 → size ≡ bits) × (9223372036854775808 ≤ bits → size ≡ 18446744073709551615 - bits + 1)

-- a minus, and behind it or over it the size
pub integer-stored :
    {l m : List ℕ} {at bits i size r : ℕ} → Reached bits 9223372036854775808 i → Size bits size
    → Stored (set l at 45) (at + i) (decimal size) m r → Stored l at (decimalℤ (signed 8 bits)) m r
integer-stored {l} {m} {at} {bits} {i} {size} {r} I S D =
    elim (dec_le 9223372036854775808 bits) [
      | no d ↦
          (let low = lt_of_not-le d in
          let here : at + i ≡ at = omega (arith, I.1 low) in
          let is : decimal size ≡ decimalℤ (signed 8 bits) = ap decimal (S.0 low) ∙ bits-low bits low in
          stored-as (record { bytes = D.bytes ∙ rw here (sets_over l at 45 (decimal size) (decimal-some size)); next = D.next ∙ rw here }) is)
      | yes d ↦
          (let here : at + i ≡ suc at = omega (arith, I.0 d) in
          let is : 45 ∷ decimal size ≡ decimalℤ (signed 8 bits) = ap (λ (n : ℕ). 45 ∷ decimal n) (S.1 d) ∙ bits-high bits d in
          stored-as (record { bytes = D.bytes ∙ rw here; next = omega (arith, D.next, here) }) is)
    ]

-- ── bytes in hex ──

pub hex-bytes-long : (s : List ℕ) → 2 * length s ≡ length (hex s)
unfolding hex flat
hex-bytes-long [] = refl
hex-bytes-long (b ∷ s) = rw (length-append, hex-long 2 b, ← hex-bytes-long s) (omega arith)

-- two digits a byte are stored of the first i
pub record Pairing (l : List ℕ) (at : ℕ) (s m : List ℕ) (i : ℕ) : Type 0 where
  pub long : length m ≡ length l
  pub within : i ≤ length s
  pub same : sets m (at + 2 * i) (hex (drop i s)) ≡ sets l at (hex s)

pub pairing-start : (l : List ℕ) (at : ℕ) (s : List ℕ) → Pairing l at s l 0
pairing-start l at s = record { long = refl; within = omega arith; same = rw add-zero }

module _ {l : List ℕ} {at : ℕ} {s m : List ℕ} {i : ℕ} (g : Pairing l at s m i) where
  pub pairing-on :
      i < length s → get_or s i 0 < 256
      → Pairing l at s (set (set m (at + 2 * i) (glyph (get_or s i 0 / 16))) (at + 2 * i + 1) (glyph (get_or s i 0 % 16))) (i + 1)
  pairing-on lt byte =
      let one : at + 2 * i + 1 ≡ suc (at + 2 * i) = omega arith in
      let two : at + 2 * (i + 1) ≡ suc (suc (at + 2 * i)) = omega arith in
      record {
        long = rw (length-set, length-set) g.long;
        within = omega arith;
        same = rw (one, two) (rw (hex-more s i lt, ← hex-pair (get_or s i 0) byte) at g.same);
      }

  pub pairing-done : length s ≤ i → m ≡ sets l at (hex s)
  pairing-done le = rw (hex-none s i le) at g.same
