-- `table::rows::type_at` meets its contract. Assumes nothing.
use Rattle.std.proofs.Common.{arith}
use Rattle.table.specs.RowReads.{type_row, name-stands}
use Rattle.table.proofs.rows.type_at.Goals as goal

pub returns : goal.returns
returns c = record { result_value = type_row _ _ (omega arith); named = name-stands _ _ (omega arith) }
