use Rattle.values.specs.Rows.{links-full, links-cut, link_fits, links-next, links-on, links-done}
use Rattle.values.specs.Columns.{held}
use Rattle.values.proofs.columns.fill_objects.Goals as goal

pub returns-then-out-p : goal.returns-then-out-p
returns-then-out-p c = links-full c.loop-from.invariant c.loop-from-test.true c.if-out-p.true

pub loop-from-preserved-then-n-gt0 : goal.loop-from-preserved-then-n-gt0
loop-from-preserved-then-n-gt0 c = links-on c.loop-from.invariant c.objects_there-from.ensures

pub returns-in_default : goal.returns-in_default
returns-in_default c = links-cut c.loop-from.invariant c.loop-from-test.true c.number_up_to.ensures c.in_default.is

pub store-requires : goal.store-requires
store-requires c = link_fits c.loop-from.invariant c.loop-from-test.true c.number_up_to.ensures c.in-Ok.is

pub loop-from-preserved : goal.loop-from-preserved
loop-from-preserved c = links-next c.loop-from.invariant c.loop-from-test.true c.number_up_to.ensures c.in-Ok.is (held c.store.type_inv c.store.ensures)

pub returns : goal.returns
returns c = links-done c.loop-from.invariant c.loop-from-test.false
