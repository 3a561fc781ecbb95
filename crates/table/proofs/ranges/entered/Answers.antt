-- `table::ranges::entered` meets its contract. Assumes nothing.
use Rattle.std.proofs.Common.{sym, ap, ◌∙◌}
use Rattle.std.specs.Prelude.{not}
use Rattle.table.specs.Tells.{not_entered}
use Rattle.table.proofs.ranges.entered.Goals as goal

pub returns-else-not-none_from : goal.returns-else-not-none_from
returns-else-not-none_from c = let none = c.if-not-none_from.false in ap not none ∙ sym (not_entered c.args.work.now c.args.b c.args.t (c.none_from.ensures none))
