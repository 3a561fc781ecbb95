use Rattle.recall.specs.Logs.{ObjectsAre}
use Rattle.recall.specs.Walks.{Going}
use Rattle.recall.proofs.log.objects_of.Given as goal

abbrev pub invariant-loop : goal.invariant-loop
invariant-loop l = Going l.file l.steps l.counter l.t (ObjectsAre l.typ l.sum)
