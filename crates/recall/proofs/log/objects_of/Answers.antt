use Rattle.recall.specs.Logs.{objects-start}
use Rattle.recall.specs.Walks.{go-start, go_on, go-done}
use Rattle.recall.proofs.log.objects_of.Goals as goal

pub loop-init : goal.loop-init
loop-init c = go-start c.start-t.ensures objects-start

pub loop-preserved : goal.loop-preserved
loop-preserved c = go_on c.loop.invariant c.loop-test.true c.share-sum.ensures c.step-t.ensures

pub returns : goal.returns
returns c = go-done c.loop.invariant c.loop-test.false
