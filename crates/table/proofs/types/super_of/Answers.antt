-- `table::types::super_of` meets its contract. Assumes nothing.
use Rattle.std.proofs.Common.{ap, arith}
use Rattle.paper.specs.Ledger.{Typ, type_in}
use Rattle.table.specs.RowReads.{no-super}
use Rattle.table.proofs.types.super_of.Goals as goal

pub returns-then-types-t : goal.returns-then-types-t
returns-then-types-t c = no-super _ _ (omega arith)

pub returns : goal.returns
unfolding type_in
returns c = ap (λ (x : Typ). x.super) c.type_at-row.ensures.result_value
