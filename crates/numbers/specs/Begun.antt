-- A byte, and a v64 of two bytes or more, whose first byte was read. Assumes nothing.
use Rattle.std.specs.Prelude.{◌≡◌, List, ℕ, ◌+◌, ◌≤◌, ◌<◌, length, get_or}
use Rattle.std.proofs.Common.{ap, arith, drop-cons, le-leb}
use Rattle.paper.specs.Reader.{got, and_then, when◌then◌else◌, ◌>>=◌, give, bytes}
use Rattle.paper.specs.Numbers.{high_first, fixed, v64}

-- ── one byte ──

pub one_byte : (f : List ℕ) (p : ℕ) → p < length f → fixed 1 f p ≡ got (get_or f p 0) (p + 1)
unfolding fixed bytes ◌>>=◌ give when◌then◌else◌ high_first
one_byte f p h = rw (le-leb (p + 1) (length f) (omega arith), drop-cons f p 0 h) (ap (λ (n : ℕ). got n (p + 1)) (omega arith))

-- ── a v64 of two bytes or more ──

-- it stands at `at`, with `low` in its low seven bits, and the top bit set
pub record Begun (f : List ℕ) (at low : ℕ) : Type 0 where
  pub room : at < length f
  pub byte : get_or f at 0 ≡ 128 + low
  pub small : low < 128

-- the one that stands at `at` ends at e
pub record Ended (f : List ℕ) (at e : ℕ) : Type 0 where
  pub says : and_then (v64 f at) (λ n e. got (tt {0}) e) ≡ got tt e
  pub inside : e ≤ length f
