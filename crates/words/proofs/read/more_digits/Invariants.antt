use Rattle.std.proofs.Common.{◌≡◌, List, ℕ, ◌-◌, length, drop}
use Rattle.paper.specs.Scan.{digits_on}
use Rattle.words.proofs.read.more_digits.Given as goal

pub record Left (t : List ℕ) (at first v p : ℕ) : Type 0 where
  pub same : digits_on v p (drop p t) ≡ digits_on first at (drop at t)

abbrev pub invariant-loop-at : goal.invariant-loop-at
invariant-loop-at l = Left l.t l.at l.first l.v l.p

abbrev pub decreases-loop-at : goal.decreases-loop-at
decreases-loop-at l = length l.t - l.p
