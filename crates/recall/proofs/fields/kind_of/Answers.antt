use Rattle.std.proofs.Common.{arith}
use Rattle.trail.specs.Rows.{row-none}
use Rattle.recall.specs.FieldWalks.{kind-start, kind-on, kind-end}
use Rattle.recall.proofs.fields.kind_of.Goals as goal

pub loop-init : goal.loop-init
loop-init c = (kind-start _ _ _ _ _ c.start-t.ensures, (omega arith, row-none))

pub loop-preserved : goal.loop-preserved
loop-preserved c = (kind-on c.loop.invariant.0 c.loop-test.true c.kind_in-kind.ensures c.step-t.ensures, c.kind_in-kind.ensures.row c.loop.invariant.1)

pub returns : goal.returns
returns c = kind-end c.loop.invariant.0 (omega arith) c.loop.invariant.1
