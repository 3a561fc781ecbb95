use Rattle.std.proofs.Common.{arith}
use Rattle.calls.specs.Fill.{passed_over, stored_there}
use Rattle.calls.proofs.fills.fill_chunk.Goals as goal

pub returns-then-d-i : goal.returns-then-d-i
returns-then-d-i c = passed_over c.if-d-i.true

pub slice_bounds-fill-count : goal.slice_bounds-fill-count
slice_bounds-fill-count c = omega (arith, (c.requires.lies c.if-d-i.false).0)

pub slice_bounds-fill-start : goal.slice_bounds-fill-start
slice_bounds-fill-start c = omega (arith, (c.requires.lies c.if-d-i.false).0)

pub slice_bounds-fill-end : goal.slice_bounds-fill-end
slice_bounds-fill-end c = omega (arith, (c.requires.lies c.if-d-i.false).1)

pub fill-requires : goal.fill-requires
fill-requires c = c.requires.listed

pub returns : goal.returns
returns c = stored_there c.if-d-i.false c.fill.ensures
