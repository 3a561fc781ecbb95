use Rattle.values.specs.Overs.{Looking}
use Rattle.values.proofs.runs.v64s_there.Given as goal

abbrev pub invariant-loop : goal.invariant-loop
invariant-loop l = Looking l.part l.initial.here.at l.count l.here.at l.counter
