-- The number that a column is asked with, by the numbers of its field's kind. Assumes nothing.
use Rattle.std.specs.Prelude.{◌≡◌, ℕ, ◌≤◌, ◌<◌}
use Rattle.std.proofs.Common.{arith}
use Rattle.std.proofs.Math.Nat.{lt_of_not-le}
use Rattle.std.proofs.Math.Decide.{dec_le}
use borrow.Author.Tests.{le-leb, lt-ltb, le-ltb, ne_eqb}
use Rattle.paper.specs.Reader.{when◌then◌else◌}
use Rattle.paper.specs.Ledger.{plain}
use Rattle.paper.specs.Calls.{asked}
use Rattle.table.specs.View.{kind_from}
use Rattle.values.specs.Chunks.{kind-array, kind-many, kind-plain}

module _ (k e : ℕ) where
  pub asked-constant : k ≤ 4 → (a : ℕ) → k ≡ asked (kind_from k a e)
  unfolding kind_from when◌then◌else◌ asked
  asked-constant h a =
      elim (dec_le k 3) [
        | yes d ↦ rw (le-leb k 3 d)
        | no d ↦ (let four : k ≡ 4 = omega (arith, lt_of_not-le d) in rw four)
      ]

  pub asked-array : k ≡ 15 → (a : ℕ) → 33 ≡ asked (kind_from k a e)
  unfolding asked
  asked-array h a = rw (kind-array k a e h)

  pub asked-many : 17 ≤ k → k ≤ 19 → (a : ℕ) → 33 ≡ asked (kind_from k a e)
  unfolding asked
  asked-many h l a = rw (kind-many k a e h l)

  pub asked-map : k ≡ 20 → (a : ℕ) → 33 ≡ asked (kind_from k a e)
  unfolding kind_from when◌then◌else◌ asked
  asked-map h a = rw h

  -- arrays and maps
  pub asked-none : 17 ≤ k → k ≤ 20 → (a : ℕ) → 33 ≡ asked (kind_from k a e)
  asked-none h l a =
      elim (dec_le k 19) [
        | yes d ↦ asked-many h d a
        | no d ↦ asked-map (omega (arith, lt_of_not-le d)) a
      ]

  -- the others are plain
  pub asked-as-plain : 4 < k → (k ≡ 15 → ⊥) → (17 ≤ k → 20 < k) → {r : ℕ} → r ≡ asked (plain e) → (a : ℕ) → r ≡ asked (kind_from k a e)
  asked-as-plain h x y is a = rw (kind-plain k a e h x (λ q. omega (arith, y q)) (λ q. omega (arith, y (omega arith)))) is

module _ (e : ℕ) where
  pub asked-annotation : e ≡ 5 → 33 ≡ asked (plain e)
  unfolding asked when◌then◌else◌
  asked-annotation h = rw h

  pub asked-plain : (e ≡ 5 → ⊥) → e < 32 → e ≡ asked (plain e)
  unfolding asked when◌then◌else◌
  asked-plain other lt = rw (ne_eqb e 5 other, lt-ltb e 32 lt)

  pub asked-type : 32 ≤ e → 32 ≡ asked (plain e)
  unfolding asked when◌then◌else◌
  asked-type le = rw (ne_eqb e 5 (λ q. omega arith), le-ltb e 32 le)
