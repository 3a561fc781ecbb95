-- `table::names::stretch_of` meets its contract. Assumes nothing.
use Rattle.table.specs.Tells.{stretch-told, stretch-all}
use Rattle.table.proofs.names.stretch_of.Goals as goal

pub returns-then-not-told : goal.returns-then-not-told
returns-then-not-told c = stretch-all c.args.t c.requires c.fields.ensures

pub returns : goal.returns
returns c = let known = c.told.ensures c.if-not-told.false in stretch-told c.requires known.0 c.args.t known.1 c.tally_at-from.ensures c.tally_at-to.ensures
