-- `table::names::fields_of` meets its contract. Assumes nothing.
use Rattle.std.proofs.Common.{◌≡◌, ◌+◌, ◌≤◌, length, drop}
use Rattle.paper.specs.Lists.{places}
use Rattle.paper.specs.Ledger.{owns?}
use Rattle.table.specs.View.{flds_of}
use Rattle.table.proofs.names.fields_of.Given as goal

abbrev pub invariant-loop-i : goal.invariant-loop-i
invariant-loop-i l = (l.k ≤ l.i) × (length (places (owns? l.t) 0 (flds_of l.work)) ≡ l.k + length (places (owns? l.t) l.i (drop l.i (flds_of l.work))))
