-- `table::ranges::known_clear` meets its contract. Assumes nothing.
use Rattle.std.proofs.Common.{◌-◌, arith, leb-true}
use Rattle.table.specs.Tells.{clear-beyond, clear-here}
use Rattle.table.proofs.ranges.known_clear.Goals as goal

pub returns-then-c-b : goal.returns-then-c-b
returns-then-c-b c = λ e. clear-beyond c.requires.ok (c.told.ensures c.if-not-told.false).0 (c.args.up - 1) (c.told.ensures c.if-not-told.false).1 c.args.b c.args.start (omega (arith, c.tally_at-c.ensures, c.if-c-b.true))

pub returns : goal.returns
returns c = λ e. clear-here c.requires.ok (c.told.ensures c.if-not-told.false).0 (c.args.up - 1) (c.told.ensures c.if-not-told.false).1 c.args.b c.args.start (omega (arith, c.tally_at-c.ensures, c.if-c-b-2.false)) (omega (arith, leb-true c.tally_at.result c.args.start e, c.tally_at.ensures))
