use Rattle.recall.specs.Logs.{EnteredIn}
use Rattle.recall.specs.Walks.{Going}
use Rattle.recall.proofs.log.entered.Given as goal

abbrev pub invariant-loop : goal.invariant-loop
invariant-loop l = Going l.file l.steps l.counter l.t (EnteredIn l.block l.typ l.seen)
