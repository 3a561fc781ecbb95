use Rattle.recall.specs.Logs.{share-block, share_other, share-more}
use Rattle.recall.proofs.log.share.Goals as goal

pub returns-then-t-eq0 : goal.returns-then-t-eq0
returns-then-t-eq0 c = share-block c.if-t-eq0.true

pub returns-then-top-typ : goal.returns-then-top-typ
returns-then-top-typ c = share_other c.if-t-eq0.false c.past_head-top.ensures c.if-top-typ.true

pub returns : goal.returns
returns c = share-more c.if-t-eq0.false c.past_head-top.ensures c.if-top-typ.false c.plus.ensures
