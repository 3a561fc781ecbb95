-- `table::ranges::any_range` meets its contract. Assumes nothing.
use Rattle.std.proofs.Common.{◌≡◌, drop, Bool}
use Rattle.paper.specs.Lists.{any}
use Rattle.paper.specs.Ledger.{Range}
use Rattle.table.specs.View.{log_of}
use Rattle.table.specs.Asks.{Tests}
use Rattle.table.proofs.ranges.any_range.Given as goal

abbrev pub invariant-loop-i : goal.invariant-loop-i
invariant-loop-i g l = (p : Range → Bool) → Tests (goal.F-post g l.passes) p → any p (log_of l.work) ≡ any p (drop l.i (log_of l.work))
