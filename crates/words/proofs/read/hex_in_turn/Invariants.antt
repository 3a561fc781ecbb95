use Rattle.std.proofs.Common.{◌≡◌, List, ℕ, ◌-◌, ◌^◌, ◌<◌}
use Rattle.paper.specs.Scan.{hex_on}
use Rattle.words.proofs.read.hex_in_turn.Given as goal

pub record Left (t : List ℕ) (n at p v i : ℕ) : Type 0 where
  pub small : v < 16 ^ i
  pub same : hex_on (n - i) v t p ≡ hex_on n 0 t at

abbrev pub invariant-loop-i : goal.invariant-loop-i
invariant-loop-i l = Left l.t l.n l.at l.p l.v l._i
