-- `table::rows::chunk_at` meets its contract. Assumes nothing.
use Rattle.std.proofs.Common.{◌+◌, ◌*◌, arith}
use Rattle.table.specs.RowReads.{chunk_row}
use Rattle.table.proofs.rows.chunk_at.Goals as goal

pub returns : goal.returns
returns c = record { result_value = chunk_row _ _ (omega arith); near = record { field_fits = omega arith; start_fits = omega (arith, c.shared_slice_known-1.given (7856 + 2 * c.args.i)) } }
