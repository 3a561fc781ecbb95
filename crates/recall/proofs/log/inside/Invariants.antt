use Rattle.recall.specs.Logs.{InsideIn}
use Rattle.recall.specs.Walks.{Going}
use Rattle.recall.proofs.log.inside.Given as goal

abbrev pub invariant-loop : goal.invariant-loop
invariant-loop l = Going l.file l.steps l.counter l.t (InsideIn l.block l.up l.first l.n l.seen)
