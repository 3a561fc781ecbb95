use Rattle.words.specs.Backwards.{Hexed}
use Rattle.words.proofs.write.store_hex.Given as goal

abbrev pub invariant-loop-k : goal.invariant-loop-k
invariant-loop-k l = Hexed l.initial.out l.at l.n l.x l.out l.k l.left
