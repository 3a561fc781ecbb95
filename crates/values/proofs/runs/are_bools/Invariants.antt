use Rattle.values.specs.Held.{BoolsYet}
use Rattle.values.proofs.runs.are_bools.Given as goal

abbrev pub invariant-loop-i : goal.invariant-loop-i
invariant-loop-i l = BoolsYet l.part l.at l.end l.others l.i
