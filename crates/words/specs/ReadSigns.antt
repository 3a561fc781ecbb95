-- Signed decimals read, by cases, as code meets them. Assumes nothing.
use Rattle.std.specs.Prelude.{◌≡◌, List, ℕ, ◌+◌, ◌-◌, ◌≤◌, ◌<◌, negsuc, get_or}
use Rattle.std.proofs.Common.{sym, ◌∙◌, ap, arith}
use borrow.Author.Tests.{lt-ltb, le-ltb, le-leb, lt-leb, eq-eqb, ne_eqb}
use Rattle.paper.specs.Reader.{when◌then◌else◌, got, no as bad}
use Rattle.paper.specs.Numbers.{signed}
use Rattle.paper.specs.Scan.{natural, integer, negative, positive}
use Rattle.words.specs.Answers.{Peeked}

module _ {t : List ℕ} {at b : ℕ} (k : Peeked t at b) where
  pub minus : b ≡ 45 → integer t at ≡ negative (natural t (at + 1))
  unfolding integer when◌then◌else◌
  minus e = rw (eq-eqb (get_or t at 256) 45 (sym k.is ∙ e))

  pub plus : (b ≡ 45 → ⊥) → integer t at ≡ positive (natural t at)
  unfolding integer when◌then◌else◌
  plus n = rw (ne_eqb (get_or t at 256) 45 (λ e. n (k.is ∙ e)))

module _ (n e : ℕ) where
  pub negative-nought : n ≡ 0 → bad 20 0 ≡ negative (got n e)
  unfolding negative when◌then◌else◌
  negative-nought z = rw (eq-eqb n 0 z)

  pub negative-large : 9223372036854775808 < n → bad 20 0 ≡ negative (got n e)
  unfolding negative when◌then◌else◌
  negative-large h = rw (ne_eqb n 0 (λ z. omega arith), lt-ltb 9223372036854775808 n h)

  pub negative-bits : 0 < n → n ≤ 9223372036854775808 → got (signed 8 (18446744073709551615 - (n - 1))) e ≡ negative (got n e)
  unfolding negative when◌then◌else◌ signed
  negative-bits p h =
      rw (ne_eqb n 0 (λ z. omega arith), le-ltb 9223372036854775808 n h, le-ltb (18446744073709551615 - (n - 1)) 9223372036854775808 (omega arith))
      (ap (λ (k : ℕ). got (negsuc k) e) (omega arith))

  pub positive-large : 9223372036854775808 ≤ n → bad 20 0 ≡ positive (got n e)
  unfolding positive when◌then◌else◌
  positive-large h = rw (le-leb 9223372036854775808 n h)

  pub positive-bits : n < 9223372036854775808 → got (signed 8 n) e ≡ positive (got n e)
  unfolding positive when◌then◌else◌ signed
  positive-bits h = rw (lt-leb 9223372036854775808 n h, lt-ltb n 9223372036854775808 h)
