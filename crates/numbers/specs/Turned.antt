-- Numbers of a fixed width that are there: their bytes are taken lowest first, and then turned round. Assumes nothing.
use Rattle.std.specs.Prelude.{◌≡◌, List, [], ◌∷◌, ℕ, ◌+◌, ◌*◌, ◌^◌, ◌≤◌, ◌<◌, length, get_or}
use Rattle.paper.specs.Reader.{got}
use Rattle.paper.specs.Numbers.{high_first, fixed, v64}
use Rattle.numbers.specs.declared.Taken.{Taken}

-- lowest byte first
unfoldable pub low_bytes : List ℕ → ℕ
low_bytes [] = 0
low_bytes (b ∷ bs) = b + 256 * low_bytes bs

-- x has these bytes lowest first, and r has them highest first, whichever they are
pub record Turned (width x r : ℕ) : Type 0 where
  pub is : (bs : List ℕ) → length bs ≡ width → ((i : ℕ) → i < width → get_or bs i 0 < 256) → x ≡ low_bytes bs → r ≡ high_first bs
  pub below : r < 256 ^ width

-- the number of so many bytes that stands at `at`, and the cursor behind it
pub record TakenAt (width : ℕ) (f : List ℕ) (at : ℕ) (t : Taken) : Type 0 where
  pub says : fixed width f at ≡ got t.number t.next.at
  pub place : t.next.at ≡ at + width
  pub below : t.number < 256 ^ width

-- the v64 that stands at `at`
pub record TakenV64 (f : List ℕ) (at : ℕ) (t : Taken) : Type 0 where
  pub says : v64 f at ≡ got t.number t.next.at
  pub on : at < t.next.at
  pub most : t.next.at ≤ at + 9
  pub below : t.number < 2 ^ 64
