-- `table::ranges::sum_of` meets its contract. Assumes nothing.
use Rattle.std.proofs.Common.{◌≡◌, ◌+◌, ◌*◌, ◌≤◌, drop, Bool}
use Rattle.paper.specs.Lists.{total}
use Rattle.paper.specs.Ledger.{Range, size}
use Rattle.table.specs.View.{log_of}
use Rattle.table.specs.Asks.{Tests}
use Rattle.table.proofs.ranges.sum_of.Given as goal

abbrev pub invariant-loop-i : goal.invariant-loop-i
invariant-loop-i g l = record {
  value : (p : Range → Bool) → Tests (goal.F-post g l.passes) p → total p size (log_of l.work) ≡ l.sum + total p size (drop l.i (log_of l.work));
  upper_bound : l.sum ≤ 65535 * l.i;
}
