-- The lines of known fields, as a loop meets them: only the place behind them matters. Assumes nothing.
use Rattle.std.specs.Prelude.{◌≡◌, List, ℕ, zero, suc, ◌≤◌, ◌<◌}
use Rattle.std.proofs.Common.{sym, ◌∙◌, arith}
use Rattle.paper.specs.Reader.{Out, got, no as bad, repeat}
use Rattle.paper.specs.Listing.{old_line}
use Rattle.paper.specs.Scan.{literal}
use Rattle.values.specs.Pass.{forget, pass-none, pass-more}

-- k of them
abbrev pub olds : ℕ → List ℕ → ℕ → Out (Unit {0})
olds k t at = forget (repeat k (literal old_line) t at)

pub olds-none : (k : ℕ) (t : List ℕ) (at : ℕ) → k ≤ 0 → got tt at ≡ olds k t at
olds-none zero t at h = sym (pass-none (literal old_line) t at)
olds-none (suc k) t at h = absurd (omega arith)

-- another line is there, or it is not
pub olds-on : {k more : ℕ} (t : List ℕ) (at : ℕ) {e : ℕ} → k ≡ suc more → got tt e ≡ literal old_line t at → olds more t e ≡ olds k t at
unfolding forget
olds-on {k} {more} t at is s = rw is (sym (pass-more (literal old_line) t more at ∙ rw (← s)))

pub olds-not : (k : ℕ) (t : List ℕ) (at : ℕ) → 0 < k → bad 20 0 ≡ literal old_line t at → olds k t at ≡ bad 20 0
unfolding forget
olds-not zero t at h s = absurd (omega arith)
olds-not (suc k) t at h s = pass-more (literal old_line) t k at ∙ rw (← s)
