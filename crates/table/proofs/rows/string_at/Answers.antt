-- `table::rows::string_at` meets its contract. Assumes nothing.
use Rattle.std.proofs.Common.{arith}
use Rattle.table.specs.RowReads.{string-stands}
use Rattle.table.proofs.rows.string_at.Goals as goal

pub returns : goal.returns
returns c = string-stands _ _ (omega arith)
