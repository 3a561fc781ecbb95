use Rattle.paper.specs.Numbers.{v64}
use Rattle.values.specs.Turns.{Turning}
use Rattle.values.proofs.runs.v64s_in_turn.Given as goal

abbrev pub invariant-loop : goal.invariant-loop
invariant-loop l = Turning v64 l.part l.m l.initial.here.at l.counter l.here.at
