-- `regions::map_bytes` meets its contract: the kinds are those of the row. Assumes nothing.
use Rattle.std.proofs.Common.{arith}
use Rattle.walk.specs.Steps.{kinds-few, kinds-are, kinds-lent, kinds-asked}
use Rattle.regions.specs.Chunk.{row-say, row_told}
use Rattle.regions.proofs.map_bytes.Goals as goal

pub map_kinds-k-requires : goal.map_kinds-k-requires
map_kinds-k-requires c = let (lo, hi) = kinds-few c.requires.kinds.0 c.requires.kinds.1 in (lo, hi, omega arith)

pub slice_bounds-kinds-end : goal.slice_bounds-kinds-end
slice_bounds-kinds-end c = omega (arith, c.map_kinds-k.ensures.0, (kinds-few c.requires.kinds.0 c.requires.kinds.1).1)

pub slice_bounds-mapped_bytes-end : goal.slice_bounds-mapped_bytes-end
slice_bounds-mapped_bytes-end c = kinds-lent c.requires.kinds.0 c.requires.kinds.1 _ c.map_kinds-k.ensures.0 c.map_kinds-k.ensures.1

pub mapped_bytes-requires : goal.mapped_bytes-requires
mapped_bytes-requires c = record { holds = (c.requires.holds.0, c.requires.holds.1, row-say c.args.kind c.requires.kinds.1 (kinds-are c.requires.kinds.0 c.requires.kinds.1 _ c.map_kinds-k.ensures.0 c.map_kinds-k.ensures.1) c.requires.holds.2); in_bounds = let (some, all) = kinds-asked c.requires.kinds.0 c.requires.kinds.1 _ c.map_kinds-k.ensures.0 c.map_kinds-k.ensures.1 in (some, all, omega (arith, kinds-lent c.requires.kinds.0 c.requires.kinds.1 _ c.map_kinds-k.ensures.0 c.map_kinds-k.ensures.1, c.map_kinds-k.ensures.0, (kinds-few c.requires.kinds.0 c.requires.kinds.1).1)) }

pub returns : goal.returns
returns c = row_told c.args.n c.args.kind c.args.work.now c.requires.kinds.1 (kinds-are c.requires.kinds.0 c.requires.kinds.1 _ c.map_kinds-k.ensures.0 c.map_kinds-k.ensures.1) c.mapped_bytes.ensures
