-- `table::types::base_of` meets its contract. Assumes nothing.
use Rattle.std.proofs.Common.{ap, arith}
use Rattle.paper.specs.Ledger.{Typ, type_in}
use Rattle.table.specs.RowReads.{no-base}
use Rattle.table.proofs.types.base_of.Goals as goal

pub returns-then-types-t : goal.returns-then-types-t
returns-then-types-t c = no-base _ _ (omega arith)

pub returns : goal.returns
unfolding type_in
returns c = ap (λ (x : Typ). x.base) c.type_at-row.ensures.result_value
