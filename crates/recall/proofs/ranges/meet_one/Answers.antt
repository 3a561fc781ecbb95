use Rattle.recall.specs.Meets.{met-block, met-entry}
use Rattle.recall.proofs.ranges.meet_one.Goals as goal

pub returns-then-t-eq0 : goal.returns-then-t-eq0
returns-then-t-eq0 c = met-block c.if-t-eq0.true

pub returns : goal.returns
returns c = met-entry c.if-t-eq0.false c.past_head-top.ensures c.base_of-base.ensures c.of_type.ensures c.plus-begin.ensures c.plus-end.ensures c.put.ensures c.tally_on.ensures
