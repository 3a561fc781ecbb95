use Rattle.std.proofs.Common.{sym, ◌∙◌}
use Rattle.values.specs.RangeLaws.{placed_at}
use Rattle.values.proofs.references.guided_range.Goals as goal

pub returns-then-lies_in : goal.returns-then-lies_in
returns-then-lies_in c = placed_at _ _ _ _ c.args.ranges.as_long c.if-i-ranges.true (sym c.lies_in.ensures ∙ c.if-lies_in.true)
