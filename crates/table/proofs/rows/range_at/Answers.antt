-- `table::rows::range_at` meets its contract. Assumes nothing.
use Rattle.std.proofs.Common.{◌+◌, ◌*◌, arith}
use Rattle.table.specs.RowReads.{range-row}
use Rattle.table.proofs.rows.range_at.Goals as goal

pub returns : goal.returns
returns c = record { result_value = range-row _ _ (omega arith); small = record { typ-fits = omega arith; block-fits = omega (arith, c.shared_slice_known-1.given (4272 + 3 * c.args.i)); start_fits = omega arith; count_fits = omega (arith, c.shared_slice_known-1.given (4272 + 3 * c.args.i + 1)) } }
