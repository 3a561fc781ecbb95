-- `table::ranges::is_before` meets its contract. Assumes nothing.
use Rattle.std.proofs.Common.{eq-eqb, ne_eqb}
use Rattle.paper.specs.Ledger.{before?, of?}
use Rattle.table.proofs.ranges.is_before.Goals as goal

pub returns-then-r-t : goal.returns-then-r-t
unfolding before? of?
returns-then-r-t c = simp (eq-eqb _ _ c.if-r-t.true)

pub returns-else-r-t : goal.returns-else-r-t
unfolding before? of?
returns-else-r-t c = simp (ne_eqb _ _ c.if-r-t.false)
