use Rattle.values.specs.Quick.{paired-start, paired-next, paired-done}
use Rattle.values.proofs.maps.pairs_behind.Goals as goal

pub loop-init : goal.loop-init
loop-init c = paired-start c.requires

pub one_behind-requires : goal.one_behind-requires
one_behind-requires c = c.loop.invariant.inside

pub one_behind-requires-in-loop : goal.one_behind-requires-in-loop
one_behind-requires-in-loop c = c.in_ok-next.ensures.inside

pub loop-preserved : goal.loop-preserved
loop-preserved c = paired-next c.loop.invariant c.loop-test.true c.in_ok-next.ensures c.in_ok-here.ensures

pub returns : goal.returns
returns c = paired-done c.loop.invariant c.loop-test.false
