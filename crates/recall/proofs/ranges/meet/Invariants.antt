-- The invariant: the lists are true of the stage where the trail stands. Assumes nothing.
use Rattle.recall.specs.Meets.{Meets}
use Rattle.recall.proofs.ranges.meet.Given as goal

abbrev pub invariant-loop : goal.invariant-loop
invariant-loop l = Meets l.file l.steps l.initial.places l.initial.first l.initial.last l.counter l.t l.p l.places l.first l.last
