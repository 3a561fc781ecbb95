use Rattle.texts.specs.Quiet.{Counting}
use Rattle.texts.proofs.tabs_left.Given as goal

abbrev pub invariant-loop-at : goal.invariant-loop-at
invariant-loop-at l = Counting l.t l.initial.at l.at l.n
