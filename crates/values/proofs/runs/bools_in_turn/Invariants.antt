use Rattle.paper.specs.Reader.{must}
use Rattle.paper.specs.Numbers.{fixed}
use Rattle.paper.specs.Rules.{bool_rules}
use Rattle.values.specs.Turns.{Turning}
use Rattle.values.proofs.runs.bools_in_turn.Given as goal

abbrev pub invariant-loop : goal.invariant-loop
invariant-loop l = Turning (must (fixed 1) bool_rules) l.part l.m l.initial.here.at l.counter l.here.at
