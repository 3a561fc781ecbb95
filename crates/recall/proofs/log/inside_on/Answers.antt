use Rattle.recall.specs.Logs.{inside-block, inside-elsewhere, inside-here}
use Rattle.recall.proofs.log.inside_on.Goals as goal

pub returns-then-t-eq0 : goal.returns-then-t-eq0
returns-then-t-eq0 c = inside-block c.if-t-eq0.true

pub returns-then-t-block : goal.returns-then-t-block
returns-then-t-block c = inside-elsewhere c.if-t-eq0.false c.if-t-block.true

pub returns : goal.returns
returns c = inside-here c.if-t-eq0.false c.past_head-top.ensures c.if-t-block.false c.around-within.ensures c.clear-behind.ensures
