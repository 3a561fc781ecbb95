use Rattle.values.specs.Items.{linked, at_most}
use Rattle.values.specs.Turns.{Turning}
use Rattle.values.proofs.runs.strings_in_turn.Given as goal

abbrev pub invariant-loop : goal.invariant-loop
invariant-loop l = Turning (linked (at_most l.strings)) l.part l.m l.initial.here.at l.counter l.here.at
