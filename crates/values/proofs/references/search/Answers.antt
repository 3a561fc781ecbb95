use Rattle.std.proofs.Common.{sym, ◌∙◌}
use Rattle.values.specs.RangeLaws.{placed_at, searched-all, searched-on, searched-start}
use Rattle.values.proofs.references.search.Goals as goal

pub loop-i-init : goal.loop-i-init
loop-i-init c = searched-start _ _ _

pub returns-then-lies_in : goal.returns-then-lies_in
returns-then-lies_in c = placed_at _ _ _ _ c.args.ranges.as_long c.loop-i-test.true (sym c.lies_in.ensures ∙ c.if-lies_in.true)

pub loop-i-preserved : goal.loop-i-preserved
loop-i-preserved c = searched-on c.loop-i.invariant c.loop-i-test.true (sym c.lies_in.ensures ∙ c.if-lies_in.false)

pub returns : goal.returns
returns c = searched-all c.loop-i.invariant c.loop-i-test.false
