-- How many bytes a number has in a file. Assumes nothing.
use Rattle.std.specs.Prelude.{◌≡◌, refl, [], ◌∷◌, ℕ, zero, suc, ◌+◌, ◌^◌, ◌/◌, ◌%◌, ◌≤◌, ◌<◌, length}
use Rattle.std.proofs.Common.{ap, arith, pow-suc, lt_of_not-le, lit<, lt-ltb, le-ltb}
use Rattle.std.proofs.Math.Nat.{one-le-pow}
use Rattle.std.proofs.Math.Decide.{dec_le}
use Rattle.paper.specs.Reader.{when◌then◌else◌}
use Rattle.paper.specs.Numbers.{put_fixed, put_v64, put}

-- r is the length of x as a v64
pub record Length (x r : ℕ) : Type 0 where
  pub same : r ≡ length (put x)
  pub some : 1 ≤ r
  pub most : r ≤ 9

-- ── v64: the coding by cases ──

pub one_left : (k n : ℕ) → n < 128 → put_v64 k n ≡ n ∷ []
unfolding put_v64 when◌then◌else◌
one_left zero n h = refl
one_left (suc k) n h = rw (lt-ltb n 128 h)

pub more_left : (k n : ℕ) → 128 ≤ n → put_v64 (suc k) n ≡ (128 + n % 128) ∷ put_v64 k (n / 128)
unfolding put_v64 when◌then◌else◌
more_left k n h = rw (le-ltb n 128 h)

pub last-left : (n : ℕ) → put_v64 0 n ≡ n ∷ []
unfolding put_v64
last-left n = refl

-- ── v64: the length by its limits, one law over the length ──

pub has_some : (k n : ℕ) → 1 ≤ length (put_v64 k n)
has_some zero n = rw last-left (omega arith)
has_some (suc k) n =
    elim (dec_le 128 n) [
      | yes d ↦ rw (more_left k n d) (omega arith)
      | no d ↦ rw (one_left (suc k) n (lt_of_not-le d)) (omega arith)
    ]

pub has-most : (k n : ℕ) → length (put_v64 k n) ≤ suc k
has-most zero n = rw last-left (omega arith)
has-most (suc k) n =
    elim (dec_le 128 n) [
      | yes d ↦ rw (more_left k n d) (omega (arith, has-most k (n / 128)))
      | no d ↦ rw (one_left (suc k) n (lt_of_not-le d)) (omega arith)
    ]

-- below 128 ^ j it has at most j bytes
pub below-limit : (j k n : ℕ) → n < 128 ^ suc j → length (put_v64 k n) ≤ suc j
below-limit j zero n h = rw last-left (omega arith)
below-limit zero (suc k) n h = rw (one_left (suc k) n (omega arith)) (omega arith)
below-limit (suc j) (suc k) n h =
    elim (dec_le 128 n) [
      | yes d ↦
          (let z = rw (pow-suc 128 (suc j)) at h in
          rw (more_left k n d) (omega (arith, below-limit j k (n / 128) (omega arith))))
      | no d ↦ rw (one_left (suc k) n (lt_of_not-le d)) (omega arith)
    ]

-- from 128 ^ j on it has more than j
pub from-limit : (j k n : ℕ) → j ≤ k → 128 ^ j ≤ n → suc j ≤ length (put_v64 k n)
from-limit zero k n le h = has_some k n
from-limit (suc j) zero n le h = absurd (omega arith)
from-limit (suc j) (suc k) n le h =
    let z = rw (pow-suc 128 j) at h in
    let big : 128 ≤ n = omega (arith, one-le-pow j 128 (lit< tt)) in
    rw (more_left k n big) (omega (arith, from-limit j k (n / 128) (omega arith) (omega arith)))

-- so a number between two limits has the length between them
pub between :
    (j x : ℕ) → j ≤ 8 → (0 < j → 128 ^ j ≤ x) → (j < 8 → x < 128 ^ suc j) → Length x (suc j)
unfolding put
between j x le low high = record { same = exact (dec_le 1 j) (dec_le 8 j); some = omega arith; most = omega arith }
  where
    at_least : Dec (1 ≤ j) → suc j ≤ length (put_v64 8 x)
    at_least (Dec.yes d) = from-limit j 8 x le (low d)
    at_least (Dec.no d) = omega (arith, has_some 8 x, lt_of_not-le d)

    at_most : Dec (8 ≤ j) → length (put_v64 8 x) ≤ suc j
    at_most (Dec.yes d) = omega (arith, has-most 8 x)
    at_most (Dec.no d) = below-limit j 8 x (high (lt_of_not-le d))

    exact : Dec (1 ≤ j) → Dec (8 ≤ j) → suc j ≡ length (put_v64 8 x)
    exact d e = omega (arith, at_least d, at_most e)

-- ── fixed widths ──

pub fixed-length : (w n : ℕ) → length (put_fixed w n) ≡ w
unfolding put_fixed
fixed-length zero n = refl
fixed-length (suc w) n = ap suc (fixed-length w (n % 256 ^ w))
