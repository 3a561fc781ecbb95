-- Signed numbers written, from their 64 bits and from a machine's number. Assumes nothing.
use Rattle.std.proofs.Math.Path.{◌≡◌}
use Rattle.std.specs.Prelude.{refl, [], ◌∷◌, ◌++◌, ℕ, ◌+◌, ◌-◌, ◌≤◌, ◌<◌, ℤ, pos, negsuc}
use Rattle.std.proofs.Common.{ap, arith, SFits, to_z, of_z, to_z-of_z}
use Rattle.std.specs.Int.{w64}
use borrow.Author.Tests.{lt-ltb, le-ltb}
use Rattle.paper.specs.Reader.{when◌then◌else◌}
use Rattle.paper.specs.Numbers.{signed, unsigned}
use Rattle.paper.specs.Listing.{decimal, decimalℤ}

-- ── from 64 bits ──

pub bits-low : (x : ℕ) → x < 9223372036854775808 → decimal x ≡ decimalℤ (signed 8 x)
unfolding signed decimalℤ when◌then◌else◌
bits-low x h = rw (lt-ltb x 9223372036854775808 h)

pub bits-high : (x : ℕ) → 9223372036854775808 ≤ x → (45 ∷ []) ++ decimal (18446744073709551615 - x + 1) ≡ decimalℤ (signed 8 x)
unfolding signed decimalℤ when◌then◌else◌
bits-high x h = rw (le-ltb x 9223372036854775808 h)

-- ── a machine's signed number ──

bits-are : (z : ℤ) → of_z w64 z ≡ unsigned 8 z
unfolding unsigned
bits-are (pos n) = refl
bits-are (negsuc n) = omega arith

pub machine-bits : (z : ℤ) → SFits w64 z → of_z w64 (to_z w64 (of_z w64 z)) ≡ unsigned 8 z
machine-bits z f = rw (to_z-of_z f) (bits-are z)

pub bits_back : (z : ℤ) → SFits w64 z → signed 8 (unsigned 8 z) ≡ z
unfolding signed unsigned when◌then◌else◌
bits_back (pos n) f = let h : n < 9223372036854775808 = f.sfits in rw (lt-ltb n 9223372036854775808 h)
bits_back (negsuc n) f =
    let h : n < 9223372036854775808 = f.sfits in
    rw (le-ltb (18446744073709551615 - n) 9223372036854775808 (omega arith)) (ap negsuc (omega arith))
