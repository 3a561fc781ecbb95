-- `table::rows::due_at` meets its contract. Assumes nothing.
use Rattle.std.proofs.Common.{arith}
use Rattle.table.specs.RowReads.{due-row}
use Rattle.table.proofs.rows.due_at.Goals as goal

pub returns : goal.returns
returns c = due-row _ _ (omega arith) c.wide_at-size.ensures
