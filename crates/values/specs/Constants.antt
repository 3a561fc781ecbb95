-- A constant's number, from the bits that a table keeps of it. Assumes nothing.
use Rattle.std.specs.Prelude.{◌≡◌, ℕ, ◌+◌, ◌-◌, ◌/◌, ◌^◌, ◌<◌, ◌≤◌, min, ℤ, negsuc, refl}
use Rattle.std.proofs.Common.{sym, ap, ◌∙◌, le-leb, le-ltb}
use native.Mathlib.Omega.{arith}
use Rattle.std.proofs.Math.Nat.{lt_of_not-le, le_of_lt, min-eq_left, min-eq_right}
use Rattle.std.proofs.Math.Decide.{dec_le}
use Rattle.paper.specs.Reader.{when◌then◌else◌}
use Rattle.paper.specs.Numbers.{signed}
use Rattle.paper.specs.Ledger.{constant}
use Rattle.table.specs.View.{kind_from}

-- bits past the range of w bytes say -1, as the highest within it do
signed_top : (w most a : ℕ) → 256 ^ w ≡ most + 1 → 256 ^ w / 2 ≤ most → most ≤ a → signed w a ≡ negsuc 0
unfolding signed when◌then◌else◌
signed_top w most a is half le =
    let none : 256 ^ w - 1 - a ≡ 0 = omega arith in
    rw (le-ltb a (256 ^ w / 2) (omega arith), none)

pub signed-capped : (w most a : ℕ) → 256 ^ w ≡ most + 1 → 256 ^ w / 2 ≤ most → signed w (min a most) ≡ signed w a
signed-capped w most a is half =
    elim (dec_le a most) [
      | yes d ↦ ap (signed w) (min-eq_left d)
      | no d ↦
          (let le = le_of_lt (lt_of_not-le d) in
          rw (min-eq_right le) (signed_top w most most is half (omega arith) ∙ sym (signed_top w most a is half le)))
    ]

module _ (k a : ℕ) {z : ℤ} where
  constant-low : (w : ℕ) → k ≤ 3 → 2 ^ k ≡ w → z ≡ signed w a → (e : ℕ) → kind_from k a e ≡ constant k z
  unfolding kind_from when◌then◌else◌
  constant-low w h p is e = rw (le-leb k 3 h, p, is)

  pub constant-i8 : k ≡ 0 → z ≡ signed 1 (min a 255) → (e : ℕ) → kind_from k a e ≡ constant k z
  constant-i8 h is = constant-low 1 (omega arith) (rw h) (is ∙ signed-capped 1 255 a refl (omega arith))

  pub constant-i16 : k ≡ 1 → z ≡ signed 2 (min a 65535) → (e : ℕ) → kind_from k a e ≡ constant k z
  constant-i16 h is = constant-low 2 (omega arith) (rw h) (is ∙ signed-capped 2 65535 a refl (omega arith))

  pub constant-i32 : k ≡ 2 → z ≡ signed 4 (min a 4294967295) → (e : ℕ) → kind_from k a e ≡ constant k z
  constant-i32 h is = constant-low 4 (omega arith) (rw h) (is ∙ signed-capped 4 4294967295 a refl (omega arith))

  pub constant_wide : 2 < k → k ≤ 4 → z ≡ signed 8 a → (e : ℕ) → kind_from k a e ≡ constant k z
  unfolding kind_from when◌then◌else◌
  constant_wide h l is e =
      elim (dec_le k 3) [
        | yes d ↦ (let three : k ≡ 3 = omega arith in constant-low 8 d (rw three) is e)
        | no d ↦ (let four : k ≡ 4 = omega (arith, lt_of_not-le d) in rw (four, is))
      ]
