-- `table::names::first_long` meets its contract. Assumes nothing.
use Rattle.table.specs.Asks.{Shorter}
use Rattle.table.proofs.names.first_long.Given as goal

abbrev pub invariant-loop-i : goal.invariant-loop-i
invariant-loop-i l = Shorter l.work l.n l.k l.i
