-- `table::names::find_part` meets its contract. Assumes nothing.
use Rattle.std.proofs.Common.{arith}
use Rattle.table.specs.NameLaws.{part_none}
use Rattle.table.proofs.names.find_part.Goals as goal

pub returns-then-types-i : goal.returns-then-types-i
returns-then-types-i c = part_none c.requires.holds c.args.name.start c.args.name.end c.requires.end_in_bounds.0 c.length_of.ensures c.first_long-i.ensures c.requires.end_in_bounds.1 (omega (arith, c.types.ensures))
