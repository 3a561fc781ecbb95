-- `walk::chunks::map_values` meets its contract: the kinds are those of the row. Assumes nothing.
use Rattle.std.proofs.Common.{arith}
use Rattle.walk.specs.Steps.{kinds-few, kinds-lent, kinds-due, row-valued}
use Rattle.walk.proofs.chunks.map_values.Goals as goal

pub mapped_values-requires : goal.mapped_values-requires
mapped_values-requires c = let k = c.map_kinds-k.ensures in let (two, all) = kinds-due c.requires.kinds.0 c.requires.kinds.1 _ k.0 k.1 in record { ok = c.requires.ok; in_bounds = (two, all, omega (arith, kinds-lent c.requires.kinds.0 c.requires.kinds.1 _ k.0 k.1, k.0, (kinds-few c.requires.kinds.0 c.requires.kinds.1).1)) }

pub returns : goal.returns
returns c file holds noted = row-valued c.requires.kinds.0 c.requires.kinds.1 _ c.map_kinds-k.ensures.0 c.map_kinds-k.ensures.1 holds noted c.mapped_values.ensures
