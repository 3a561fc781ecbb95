-- `table::names::part` meets its contract. Assumes nothing.
use Rattle.table.specs.NameLaws.{part_of}
use Rattle.table.proofs.names.part.Goals as goal

pub returns : goal.returns
returns c = part_of c.args.start c.args.end c.length_of.result c.args.src.now c.length_of.ensures c.requires
