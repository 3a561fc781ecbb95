-- `table::names::find_field_called` meets its contract. Assumes nothing.
use Rattle.std.proofs.Common.{◌≡◌, drop}
use Rattle.paper.specs.Lists.{place_named}
use Rattle.paper.specs.Ledger.{called?}
use Rattle.table.specs.View.{flds_of, titles_of}
use Rattle.table.proofs.names.find_field_called.Given as goal

abbrev pub invariant-loop-i : goal.invariant-loop-i
invariant-loop-i l = place_named (called? l.t l.name) 0 (flds_of l.work) (titles_of l.src l.work) ≡ place_named (called? l.t l.name) l.i (drop l.i (flds_of l.work)) (drop l.i (titles_of l.src l.work))
