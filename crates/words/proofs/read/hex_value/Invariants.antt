use Rattle.words.specs.Blocks.{Valued}
use Rattle.words.proofs.read.hex_value.Given as goal

abbrev pub invariant-loop-i : goal.invariant-loop-i
invariant-loop-i l = Valued l.t l.at l.n l.v l.i
