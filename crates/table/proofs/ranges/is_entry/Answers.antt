-- `table::ranges::is_entry` meets its contract. Assumes nothing.
use Rattle.std.proofs.Common.{eq-eqb, ne_eqb}
use Rattle.paper.specs.Ledger.{here?, of?}
use Rattle.paper.specs.Rules.{entry_of?}
use Rattle.table.proofs.ranges.is_entry.Goals as goal

pub returns-then-r-b : goal.returns-then-r-b
unfolding entry_of? here? of?
returns-then-r-b c = simp (eq-eqb _ _ c.if-r-b.true)

pub returns-else-r-b : goal.returns-else-r-b
unfolding entry_of? here? of?
returns-else-r-b c = simp (ne_eqb _ _ c.if-r-b.false)
