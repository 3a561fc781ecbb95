-- Bytes that are taken lowest first, and then turned round, one by one: one law for every width. Assumes nothing.
use mathlib.Core.Path.{◌≡◌, refl, sym, ap, ◌∙◌}
use mathlib.Core.List.{List, [], ◌∷◌, ◌++◌}
use Prim.Native.Nat.{ℕ, suc, ◌+◌, ◌*◌, ◌^◌, ◌/◌, ◌%◌, ◌≤◌, ◌<◌}
use native.Mathlib.Omega.{arith}
use native.Mathlib.Nat.{pow-suc, pow-le-pow_right, mul-le-mul_right, mod-eq_of_lt}
use native.Mathlib.Numerals.{add-one}
use lib.Dec.{lit<}
use lib.ListN.{length, get_or, take, drop, length-take, length-drop}
use lib.Seq.{take-suc, take_all, drop-cons, get_or-take, get_or-drop}
use borrow.Author.Tests.{le-leb}
use Rattle.paper.specs.Reader.{when◌then◌else◌, bytes, ◌>>=◌, give}
use Rattle.paper.specs.Numbers.{high_first, fixed}
use Rattle.numbers.specs.Turned.{low_bytes, Turned, TakenAt}
use Rattle.numbers.proofs.FixedLaws.{high-first-more}
use Rattle.numbers.proofs.WriteLaws.{shifted}

-- ── lowest first: x is the value of the i bytes so far ──

low-bytes-more : (bs : List ℕ) (b : ℕ) → low_bytes (bs ++ (b ∷ [])) ≡ low_bytes bs + b * 256 ^ length bs
unfolding low_bytes
low-bytes-more [] b = omega arith
low-bytes-more (a ∷ bs) b = rw (low-bytes-more bs b, pow-suc 256 (length bs)) (omega arith)

pub record Lowest (f : List ℕ) (at width x i : ℕ) : Type 0 where
  pub count : i ≤ width
  pub value : x ≡ low_bytes (take i (drop at f))
  pub below : x < 256 ^ i

pub lowest-none : (f : List ℕ) (at width : ℕ) → Lowest f at width 0 0
unfolding low_bytes
lowest-none f at width = record { count = omega arith; value = refl; below = omega arith }

module _ {f : List ℕ} {at width x i : ℕ} (L : Lowest f at width x i) (most : width ≤ 8) (due : i < width) (b : ℕ) (small : b < 256) where
  -- no bit of the byte is lost
  high_byte : b * 2 ^ (8 * i) % 2 ^ 64 ≡ b * 256 ^ i
  high_byte =
      let top = pow-le-pow_right {n = 256} (lit< tt) {i = i} {j = 7} (omega arith) in
      let m = mul-le-mul_right {m = b} {n = 255} (256 ^ i) (omega arith) in
      rw (shifted i) (mod-eq_of_lt (omega arith))

  next-below : x + b * 256 ^ i < 256 ^ suc i
  next-below =
      let below = L.below in
      let m = mul-le-mul_right {m = b} {n = 255} (256 ^ i) (omega arith) in
      rw (pow-suc 256 i) (omega arith)

  pub lowest-fits : x + b * 2 ^ (8 * i) % 2 ^ 64 < 2 ^ 64
  lowest-fits = rw high_byte (omega (arith, next-below, pow-le-pow_right {n = 256} (lit< tt) {i = suc i} {j = 8} (omega arith)))

  pub lowest-more :
      (y : ℕ) → y ≡ x + b * 2 ^ (8 * i) % 2 ^ 64 → at + width ≤ length f → b ≡ get_or f (at + i) 0 → Lowest f at width y (i + 1)
  lowest-more y sum room is =
      let long : i < length (drop at f) = simp length-drop (omega arith) in
      let one : get_or (drop at f) i 0 ≡ b = get_or-drop at f i 0 ∙ sym is in
      let so_far : length (take i (drop at f)) ≡ i = simp (length-take, length-drop) (omega arith) in
      let y-is : y ≡ x + b * 256 ^ i = sum ∙ ap (λ (n : ℕ). x + n) high_byte in
      record {
        count = omega arith;
        value =
            rw (add-one i, take-suc (drop at f) i 0 long, one, low-bytes-more (take i (drop at f)) b, so_far)
            (y-is ∙ ap (λ (n : ℕ). n + b * 256 ^ i) L.value);
        below = rw (add-one i) (omega (arith, next-below));
      }

pub lowest-all : {f : List ℕ} {at width x i : ℕ} → Lowest f at width x i → width ≤ i → x ≡ low_bytes (take width (drop at f))
lowest-all {width = width} {i = i} L h = let all : i ≡ width = omega (arith, L.count) in rw all at L.value

-- ── turned round: y has the i bytes so far, and `rest` those that are left ──

pub record Turning (width x y rest i : ℕ) : Type 0 where
  pub count : i ≤ width
  pub below : y < 256 ^ i
  pub is :
      (bs : List ℕ) → length bs ≡ width → ((j : ℕ) → j < width → get_or bs j 0 < 256) → x ≡ low_bytes bs
      → (y ≡ high_first (take i bs)) × (rest ≡ low_bytes (drop i bs))

pub turn-none : (width x : ℕ) → Turning width x 0 x 0
unfolding high_first
turn-none width x = record { count = omega arith; below = omega arith; is = λ bs n small e. (refl, e) }

module _ {width x y rest i : ℕ} (T : Turning width x y rest i) where
  module _ (due : i < width) where
    pub turn-fits : width ≤ 8 → y * 256 + rest % 256 < 2 ^ 64
    turn-fits h =
        let below = T.below in
        omega (arith, pow-le-pow_right {n = 256} (lit< tt) {i = i} {j = 7} (omega arith))

    pub turn_more : Turning width x (y * 256 + rest % 256) (rest / 256) (i + 1)
    unfolding low_bytes
    turn_more =
        let below = T.below in
        record {
          count = omega arith;
          below = rw (add-one i, pow-suc 256 i) (omega arith);
          is = λ bs n small e.
              let (y-is, rest-is) = T.is bs n small e in
              let long : i < length bs = omega arith in
              let b : ℕ = get_or bs i 0 in
              let lt : get_or bs i 0 < 256 = small i due in
              let parts : rest ≡ get_or bs i 0 + 256 * low_bytes (drop (suc i) bs) = rest-is ∙ ap low_bytes (drop-cons bs i 0 long) in
              let low : rest % 256 ≡ get_or bs i 0 = omega arith in
              let high : rest / 256 ≡ low_bytes (drop (suc i) bs) = omega arith in
              (rw (add-one i, take-suc bs i 0 long, high-first-more (take i bs) (get_or bs i 0), low) (ap (λ (m : ℕ). m * 256 + get_or bs i 0) y-is), rw (add-one i) high);
        }

  pub turn-all : width ≤ i → Turned width x y
  turn-all h =
      let all : i ≡ width = omega (arith, T.count) in
      record {
        is = λ bs n small e. (T.is bs n small e).0 ∙ ap high_first (take_all i bs (omega arith));
        below = rw all at T.below;
      }

-- ── the number that is taken ──

pub taken :
    {width r : ℕ} {f : List ℕ} {at x : ℕ} → at + width ≤ length f → ((i : ℕ) → get_or f i 0 < 256)
    → x ≡ low_bytes (take width (drop at f)) → Turned width x r
    → TakenAt width f at (record { number = r; next = record { at = at + width } })
unfolding fixed bytes ◌>>=◌ give when◌then◌else◌
taken {width} {r} {f} {at} {x} room small e T =
    let long : length (take width (drop at f)) ≡ width = simp (length-take, length-drop) (omega arith) in
    let is : r ≡ high_first (take width (drop at f)) =
    T.is (take width (drop at f)) long (λ i h. rw (get_or-take width (drop at f) i 0 h, get_or-drop at f i 0) (small (at + i))) e in
    record {
      says = rw (le-leb (at + width) (length f) room, is);
      place = refl;
      below = T.below;
    }
