-- `table::rows::memo_at` meets its contract. Assumes nothing.
use Rattle.std.proofs.Common.{refl}
use Rattle.table.specs.RowReads.{string-noted}
use Rattle.table.proofs.rows.memo_at.Goals as goal

pub returns : goal.returns
returns c = string-noted _ _ c.requires.i_bound c.if-work-ne1.false refl
