use Rattle.trail.specs.Stages.{Walking}
use Rattle.trail.proofs.trail.walk.Given as goal

abbrev pub invariant-loop : goal.invariant-loop
invariant-loop l = Walking l.file l.steps l.counter l.t
