use Rattle.std.proofs.Common.{arith}
use Rattle.values.specs.Rows.{link-low, on-link}
use Rattle.values.specs.Columns.{held}
use Rattle.values.proofs.columns.objects_there.Goals as goal

pub store-requires : goal.store-requires
store-requires c = link-low c.take_v64-a.result.number

pub loop-i-preserved : goal.loop-i-preserved
loop-i-preserved c = on-link c.take_v64-a.ensures (omega (arith, c.loop-i.invariant.most)) c.loop-i.invariant (held c.store.type_inv c.store.ensures)
