use Rattle.recall.specs.Logs.{entered-start, entered-done}
use Rattle.recall.specs.Walks.{go-start, go_on, go-done}
use Rattle.recall.proofs.log.entered.Goals as goal

pub loop-init : goal.loop-init
loop-init c = go-start c.start-t.ensures entered-start

pub loop-preserved : goal.loop-preserved
loop-preserved c = go_on c.loop.invariant c.loop-test.true c.entered_on-seen.ensures c.step-t.ensures

pub returns : goal.returns
returns c = entered-done (go-done c.loop.invariant c.loop-test.false)
