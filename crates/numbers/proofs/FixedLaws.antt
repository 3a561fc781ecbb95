-- A number of `width` bytes, read byte by byte: x is the value of the i bytes so far. Assumes nothing.
use mathlib.Core.Path.{◌≡◌, refl, sym, ap, ◌∙◌}
use mathlib.Core.List.{List, [], ◌∷◌, ◌++◌}
use Prim.Native.Nat.{ℕ, ◌+◌, ◌*◌, ◌^◌, ◌≤◌, ◌<◌}
use native.Mathlib.Omega.{arith}
use native.Mathlib.Nat.{pow-suc, one-le-pow, pow-le-pow_right}
use native.Mathlib.Numerals.{add-one}
use lib.Dec.{lit<}
use lib.ListN.{length, get_or, take, drop, length-append, length-drop}
use lib.Seq.{take-suc, get_or-drop}
use borrow.Author.Tests.{le-leb, lt-leb}
use Rattle.paper.specs.Reader.{got, when◌then◌else◌, bytes, ◌>>=◌, give}
use Rattle.paper.specs.Numbers.{high_first, fixed}
use Rattle.numbers.specs.Cursors.{Read, answer-got, answer-no}
use Rattle.std.specs.Prelude.{Ok, Err}
use Rattle.numbers.specs.declared.Fault.TheVariants.{Short}

pub high-first-more : (bs : List ℕ) (b : ℕ) → high_first (bs ++ (b ∷ [])) ≡ high_first bs * 256 + b
unfolding high_first
high-first-more [] b = omega arith
high-first-more (a ∷ bs) b =
    rw (length-append bs (b ∷ []), high-first-more bs b, add-one (length bs), pow-suc 256 (length bs)) (omega arith)

pub record Summed (f : List ℕ) (at width x i : ℕ) : Type 0 where
  pub count : i ≤ width
  pub value : x ≡ high_first (take i (drop at f))
  pub below : x < 256 ^ i

pub sum-none : (f : List ℕ) (at width : ℕ) → Summed f at width 0 0
unfolding high_first
sum-none f at width = record { count = omega arith; value = refl; below = omega arith }

pub too_short :
    (f : List ℕ) (at width : ℕ) → length f < at + width
    → Read (fixed width) (256 ^ width) f at (Err (record { fault = Short; place = at }))
unfolding fixed bytes ◌>>=◌ give when◌then◌else◌
too_short f at width h = answer-no (rw (lt-leb (at + width) (length f) h)) (one-le-pow width 256 (lit< tt))

module _ {f : List ℕ} {at width x i : ℕ} (S : Summed f at width x i) (room : at + width ≤ length f) where
  pub sum_more : (b y : ℕ) → y ≡ x * 256 + b → i < width → b ≡ get_or f (at + i) 0 → b < 256 → Summed f at width y (i + 1)
  sum_more b y sum h is small =
      let long : i < length (drop at f) = simp length-drop (omega arith) in
      let one : get_or (drop at f) i 0 ≡ b = get_or-drop at f i 0 ∙ sym is in
      let below = S.below in
      record {
        count = omega arith;
        value =
            rw (add-one i, take-suc (drop at f) i 0 long, one, high-first-more (take i (drop at f)) b)
            (sum ∙ ap (λ (n : ℕ). n * 256 + b) S.value);
        below = rw (add-one i, pow-suc 256 i) (omega arith);
      }

  pub sum_fits : width ≤ 8 → i < width → x * 256 + 255 < 2 ^ 64
  sum_fits h k =
      let below = S.below in
      omega (arith, pow-le-pow_right {n = 256} (lit< tt) {i = i} {j = 7} (omega arith))

  pub sum-whole : width ≤ i → Read (fixed width) (256 ^ width) f at (Ok (x, (record { at = at + width })))
  unfolding fixed bytes ◌>>=◌ give when◌then◌else◌
  sum-whole h =
      let all : i ≡ width = omega (arith, S.count) in
      answer-got
      (rw (le-leb (at + width) (length f) room) (ap (λ (n : ℕ). got n (at + width)) (sym (rw all at S.value))))
      room
      (rw all at S.below)
