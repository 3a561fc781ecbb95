-- `table::names::name_sum` meets its contract. Assumes nothing.
use Rattle.std.proofs.Common.{◌≡◌, ◌<◌, drop}
use Rattle.table.specs.View.{summed, sum_of}
use Rattle.table.proofs.names.name_sum.Given as goal

abbrev pub invariant-loop-i : goal.invariant-loop-i
invariant-loop-i l = (l.sum < 65536) × (sum_of l.name ≡ summed l.sum l.i (drop l.i l.name))
