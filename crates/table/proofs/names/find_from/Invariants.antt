-- `table::names::find_from` meets its contract. Assumes nothing.
use Rattle.std.proofs.Common.{◌≡◌, drop}
use Rattle.paper.specs.Lists.{same, place}
use Rattle.table.specs.View.{names_of}
use Rattle.table.proofs.names.find_from.Given as goal

abbrev pub invariant-loop-i : goal.invariant-loop-i
invariant-loop-i l = place (same l.name) 0 (names_of l.src l.work) ≡ place (same l.name) l.i (drop l.i (names_of l.src l.work))
