use Rattle.std.proofs.Common.{arith}
use Rattle.recall.specs.FieldWalks.{block-kind, kind-else, kind-old, kind-later, kind-new}
use Rattle.recall.proofs.fields.kind_in.Goals as goal

pub returns-then-t-eq0 : goal.returns-then-t-eq0
returns-then-t-eq0 c = block-kind c.if-t-eq0.true _ _ _

pub returns-then-top-typ : goal.returns-then-top-typ
returns-then-top-typ c = kind-else c.if-t-eq0.false c.past_olds-e.ensures _ c.if-top-typ.true _ _

pub returns-then-own-e : goal.returns-then-own-e
returns-then-own-e c = kind-old c.if-t-eq0.false c.past_olds-e.ensures _ (omega arith) _ c.if-own-e.true _

pub returns-then-e-own : goal.returns-then-e-own
returns-then-e-own c = kind-later c.if-t-eq0.false c.past_olds-e.ensures _ (omega arith) _ (omega arith) _

pub returns : goal.returns
returns c = kind-new c.if-t-eq0.false c.past_olds-e.ensures _ (omega arith) _ (omega arith) (omega arith) c.past_news-b.ensures c.new_at-g.ensures _
