use Rattle.words.specs.Pairs.{Unpaired}
use Rattle.words.proofs.read.unhex_pairs.Given as goal

abbrev pub invariant-loop-i : goal.invariant-loop-i
invariant-loop-i l = Unpaired l.pairs l.bytes l.others l.i
