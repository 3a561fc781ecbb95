-- `table::names::is_called` meets its contract. Assumes nothing.
use Rattle.std.proofs.Common.{eq-eqb, ne_eqb}
use Rattle.paper.specs.Ledger.{called?, owns?}
use Rattle.table.proofs.names.is_called.Goals as goal

pub returns-then-row-t : goal.returns-then-row-t
unfolding called? owns?
returns-then-row-t c = simp (eq-eqb _ _ c.if-row-t.true) c.has_name.ensures

pub returns-else-row-t : goal.returns-else-row-t
unfolding called? owns?
returns-else-row-t c = simp (ne_eqb _ _ c.if-row-t.false)
