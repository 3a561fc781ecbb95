-- `table::ranges::none_from` meets its contract. Assumes nothing.
use Rattle.std.proofs.Common.{arith, leb-true}
use Rattle.table.specs.Tells.{none_told}
use Rattle.table.proofs.ranges.none_from.Goals as goal

pub returns-then-told : goal.returns-then-told
returns-then-told c = λ e. none_told c.requires (c.told.ensures c.if-told.true).0 c.args.t (c.told.ensures c.if-told.true).1 c.args.b (omega (arith, leb-true c.tally_at.result c.args.b e, c.tally_at.ensures))
