use Rattle.numbers.specs.Cursors.{handed}
use Rattle.walk.specs.PairTurns.{pairs-done, pairs-many, pairs-no, pairs_next}
use Rattle.walk.proofs.pairs.pairs.Goals as goal

pub returns-then-left-eq0 : goal.returns-then-left-eq0
returns-then-left-eq0 c = pairs-many c.requires c.loop-at.invariant c.loop-at-test.true c.if-left-eq0.true

pub returns-in_err-c : goal.returns-in_err-c
returns-in_err-c c = rw (handed c.from_residual.ensures.1) (pairs-no c.requires c.loop-at.invariant c.loop-at-test.true c.if-left-eq0.false c.pair.ensures c.in_err-c.was)

pub loop-at-preserved : goal.loop-at-preserved
loop-at-preserved c = pairs_next c.requires c.loop-at.invariant c.loop-at-test.true c.if-left-eq0.false c.pair.ensures c.in_ok-c.was c.pair.auto.work

pub returns : goal.returns
returns c = pairs-done c.requires c.loop-at.invariant c.loop-at-test.false
