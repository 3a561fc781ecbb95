-- The element kinds of a map in one number: a byte of each, the first in the highest place. Assumes nothing.
use Rattle.std.specs.Prelude.{◌≡◌, refl, List, [], ◌∷◌, ◌++◌, map, ℕ, suc, ◌+◌, ◌*◌, ◌^◌, ◌≤◌, ◌<◌, min, length}
use Rattle.std.proofs.lemmas.List.{map-append, length-map}
use Rattle.std.proofs.Common.{arith, pow-suc, mul_assoc, length-append}
use Rattle.std.proofs.Math.Nat.{pow-le-pow_right, min-le_left}
use Rattle.paper.specs.Numbers.{high_first, put_fixed}
use Rattle.laws.specs.Says.{Bytes}
use Rattle.laws.specs.Spelt.{high-bound, put-high}

-- a byte of each: `min 255 k` is k itself where k is one
unfoldable pub packed : List ℕ → ℕ
packed ks = high_first (map (min 255) ks)

capped-bytes : (ks : List ℕ) → Bytes (map (min 255) ks)
capped-bytes [] = tt
capped-bytes (k ∷ ks) = (omega (arith, min-le_left 255 k), capped-bytes ks)

-- one more comes last
high-more : (bs : List ℕ) (b : ℕ) → high_first (bs ++ b ∷ []) ≡ high_first bs * 256 + b
unfolding high_first
high-more [] b = omega arith
high-more (c ∷ bs) b =
    let one_more : length (bs ++ b ∷ []) ≡ suc (length bs) = rw length-append (omega arith) in
    rw (one_more, pow-suc, high-more bs b) (rw (← mul_assoc c (256 ^ length bs) 256) (omega arith))

pub packed_none : packed [] ≡ 0
unfolding packed high_first
packed_none = refl

pub packed_more : (ks : List ℕ) (k : ℕ) → packed (ks ++ k ∷ []) ≡ packed ks * 256 + min 255 k
unfolding packed
packed_more ks k = rw map-append (high-more (map (min 255) ks) (min 255 k))

pub packed-below : (ks : List ℕ) → packed ks < 256 ^ length ks
unfolding packed
packed-below ks = rw length-map at (high-bound (map (min 255) ks) (capped-bytes ks))

-- the bytes stand in it
pub packed-back : (ks : List ℕ) → put_fixed (length ks) (packed ks) ≡ map (min 255) ks
unfolding packed
packed-back ks = rw length-map at (put-high (map (min 255) ks) (capped-bytes ks))

-- and eight of them are a number of 64 bits
pub packed-room : (ks : List ℕ) → length ks < 8 → packed ks * 256 + 255 < 2 ^ 64
packed-room ks few =
    let most : 256 ^ length ks ≤ 256 ^ 7 = pow-le-pow_right {n = 256} (omega arith) {j = 7} (omega arith) in
    omega (arith, packed-below ks, most)
