use Rattle.values.specs.Ups.{Upward}
use Rattle.values.proofs.runs.numbers_there.Given as goal

abbrev pub invariant-loop : goal.invariant-loop
invariant-loop l = Upward l.part l.initial.here.at l.largest l.here.at l.counter
