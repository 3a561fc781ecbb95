use Rattle.values.specs.Chunks.{Counting}
use Rattle.values.proofs.chunks.lists_by.Given as goal

abbrev pub invariant-loop : goal.invariant-loop
invariant-loop g l = Counting l.part (goal.F-post g l.read) l.n l.counter l.here.at
