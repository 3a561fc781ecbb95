use Rattle.std.proofs.Common.{arith}
use Rattle.values.specs.Rows.{stood, row-room, row_next, row_done}
use Rattle.values.specs.Columns.{held}
use Rattle.values.proofs.columns.fill_fixed.Goals as goal

pub take-a-requires : goal.take-a-requires
take-a-requires g c = (c.requires.1.most, row-room c.requires.1 c.loop-p.invariant (omega arith) _ c.min-n.ensures)

pub loop-p-preserved : goal.loop-p-preserved
loop-p-preserved g c = row_next c.requires.1 c.loop-p.invariant (omega arith) (row-room c.requires.1 c.loop-p.invariant (omega arith) _ c.min-n.ensures) c.take-a.ensures (stood c.value_of.ensures) (held c.store.type_inv c.store.ensures)

pub returns : goal.returns
returns g c = row_done c.requires.1 c.loop-p.invariant (omega arith) c.min-n.ensures c.requires.0
