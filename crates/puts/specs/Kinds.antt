-- A constant's value, from the bits that a table keeps of it. Assumes nothing.
use Rattle.std.specs.Prelude.{◌≡◌, ◌++◌, ℕ, ◌+◌, ◌^◌, ◌≤◌, ◌<◌, min, ltb, ℤ}
use Rattle.std.proofs.Math.Path.{refl}
use Rattle.std.proofs.Common.{arith, lt_of_not-le}
use Rattle.std.proofs.Math.Nat.{min-eq_left, min-le_right}
use Rattle.std.proofs.Math.Decide.{dec_le}
use borrow.Author.Tests.{le-leb, lt-ltb, le-ltb}
use Rattle.paper.specs.Reader.{when◌then◌else◌}
use Rattle.paper.specs.Numbers.{signed, put_fixed, put}
use Rattle.laws.specs.Put.{put_whole, put_kind}
use Rattle.laws.specs.Values.{unsigned_signed, pow_more, two-pow}
use Rattle.table.specs.View.{kind_from}
use Rattle.values.specs.Constants.{signed-capped}

-- the value of the constant of kind k that has these bits
unfoldable pub constant_of : ℕ → ℕ → ℤ
constant_of k a = when ltb k 4 then signed (2 ^ k) a else signed 8 a

pub kind-constant : (k a e : ℕ) → k ≤ 4 → put k ++ put_whole k (constant_of k a) ≡ put_kind (kind_from k a e)
unfolding constant_of kind_from put_kind when◌then◌else◌
kind-constant k a e h =
    elim (dec_le k 3) [
      | yes d ↦ rw (le-leb k 3 d, lt-ltb k 4 (omega arith))
      | no d ↦ (let four : k ≡ 4 = omega (arith, lt_of_not-le d) in rw four)
    ]

-- ── the bits are what is written ──

module _ (k a : ℕ) where
  -- i8 to i64, in one law; `top` is the most that the bytes hold
  pub whole-fixed : (j top : ℕ) → k ≡ j → j < 4 → 256 ^ (2 ^ j) ≡ top + 1 → put_fixed (2 ^ j) (min a top) ≡ put_whole k (constant_of k a)
  unfolding put_whole constant_of when◌then◌else◌
  whole-fixed j top is low most =
      rw (is, lt-ltb j 4 low, ← signed-capped (2 ^ j) top a most (omega arith), unsigned_signed (2 ^ j) _ (pow_more (2 ^ j) (two-pow j)) (min a top) (omega (arith, min-le_right a top)))

  module _ (small : a < 256 ^ 8) where
    pub whole-i64 : k ≡ 3 → put_fixed 8 a ≡ put_whole k (constant_of k a)
    whole-i64 is =
        let all : min a 18446744073709551615 ≡ a = min-eq_left (omega arith) in
        rw all at (whole-fixed 3 18446744073709551615 is (omega arith) refl)

    pub whole-v64 : 3 < k → put a ≡ put_whole k (constant_of k a)
    unfolding put_whole constant_of when◌then◌else◌
    whole-v64 h = rw (le-ltb k 4 h, unsigned_signed 8 (256 ^ 7) refl a small)
