-- The bits of a signed number. Assumes nothing.
use Rattle.std.specs.Prelude.{◌≡◌, true, ℕ, ◌^◌, ◌+◌, ◌/◌, ◌≤◌, ◌<◌, ℤ, pos, negsuc}
use Rattle.std.specs.Int.Signed.{mag}
use Rattle.std.proofs.Common.{ltb-true}
use Rattle.paper.specs.Numbers.{unsigned}
use Rattle.paper.specs.Keeps.{signed?}

-- r is what stands for z in w bytes
pub record Bits (w : ℕ) (z : ℤ) (r : ℕ) : Type 0 where
  pub same : r ≡ unsigned w z
  pub below : r < 256 ^ w

-- h is half of what w bytes can hold
pub record Half (w h : ℕ) : Type 0 where
  pub two : 256 ^ w ≡ h + h
  pub some : 0 < h
  pub most : h ≤ 2 ^ 63
  pub low : w < 8 → h ≤ 2 ^ 62

-- the range of w bytes, by its half: `mag` is the distance to 0, or to -1 from below
pub in-half : (w : ℕ) (z : ℤ) → signed? w z ≡ true → mag z < 256 ^ w / 2
unfolding signed?
in-half w (pos n) h = ltb-true n (256 ^ w / 2) h
in-half w (negsuc n) h = ltb-true n (256 ^ w / 2) h
