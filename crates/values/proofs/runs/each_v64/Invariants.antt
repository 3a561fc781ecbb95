use Rattle.values.specs.Overs.{Each}
use Rattle.values.proofs.runs.each_v64.Given as goal

abbrev pub invariant-loop : goal.invariant-loop
invariant-loop l = Each l.part l.initial.here.at l.here.at l.counter
