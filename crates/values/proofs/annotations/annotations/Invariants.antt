use Rattle.values.specs.Annotations.{placed?, annotated}
use Rattle.values.specs.Turns.{Turning}
use Rattle.values.proofs.annotations.annotations.Given as goal

abbrev pub invariant-loop : goal.invariant-loop
invariant-loop l = Turning (annotated (placed? l.pools)) l.part l.m l.initial.here.at l.counter l.here.at
