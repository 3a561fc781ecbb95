use Rattle.recall.specs.Logs.{entered-block, entered-elsewhere, entered-other, entered_here}
use Rattle.recall.proofs.log.entered_on.Goals as goal

pub returns-then-t-eq0 : goal.returns-then-t-eq0
returns-then-t-eq0 c = entered-block c.if-t-eq0.true

pub returns-then-t-block : goal.returns-then-t-block
returns-then-t-block c = entered-elsewhere c.if-t-eq0.false c.past_head-top.ensures c.pooled-all.ensures c.if-t-block.true

pub returns-then-top-typ : goal.returns-then-top-typ
returns-then-top-typ c = entered-other c.if-t-eq0.false c.past_head-top.ensures c.pooled-all.ensures c.if-t-block.false c.if-top-typ.true

pub returns : goal.returns
returns c = entered_here c.if-t-eq0.false c.past_head-top.ensures c.pooled-all.ensures c.if-t-block.false c.if-top-typ.false
