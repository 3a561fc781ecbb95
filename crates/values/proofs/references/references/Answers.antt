use Rattle.numbers.specs.Cursors.{handed}
use Rattle.values.specs.Items.{linked, some_object}
use Rattle.values.specs.Pass.{running-start, running-next, running-no, running-done}
use Rattle.values.proofs.references.references.Goals as goal

pub loop-rest-init : goal.loop-rest-init
loop-rest-init c = running-start (linked (some_object _ _)) _ _ _

pub returns-in_err-next : goal.returns-in_err-next
returns-in_err-next c = rw (handed c.from_residual.ensures.1) (running-no c.loop-rest.invariant c.loop-rest-test.true c.reference.ensures c.in_err-next.was)

pub loop-rest-preserved : goal.loop-rest-preserved
loop-rest-preserved c = running-next c.loop-rest.invariant c.loop-rest-test.true c.reference.ensures c.in_ok-next.was

pub returns : goal.returns
returns c = running-done c.loop-rest.invariant 0 c.loop-rest-test.false
