use Rattle.recall.specs.Logs.{inside-start, inside-done}
use Rattle.recall.specs.Walks.{go-start, go_on, go-done}
use Rattle.recall.proofs.log.inside.Goals as goal

pub loop-init : goal.loop-init
loop-init c = go-start c.start-t.ensures inside-start

pub loop-preserved : goal.loop-preserved
loop-preserved c = go_on c.loop.invariant c.loop-test.true c.inside_on-seen.ensures c.step-t.ensures

pub returns : goal.returns
returns c = inside-done (go-done c.loop.invariant c.loop-test.false)
