-- `table::rows::field_at` meets its contract. Assumes nothing.
use Rattle.std.proofs.Common.{arith}
use Rattle.table.specs.RowReads.{field_row, title-stands}
use Rattle.table.proofs.rows.field_at.Goals as goal

pub returns : goal.returns
returns c = record { result_value = field_row _ _ (omega arith) c.wide_at-a.ensures c.wide_at-e.ensures; named = title-stands _ _ (omega arith) }
