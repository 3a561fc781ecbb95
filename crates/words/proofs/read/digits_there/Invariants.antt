use Rattle.words.specs.Blocks.{HexesYet}
use Rattle.words.proofs.read.digits_there.Given as goal

abbrev pub invariant-loop-i : goal.invariant-loop-i
invariant-loop-i l = HexesYet l.t l.at l.n l.others l.i
