use Rattle.std.proofs.Common.{arith}
use Rattle.lay.specs.Laid.{most}
use Rattle.listing.specs.Regions.{region-start, region-done, field-there, within-file, kinds-there, region-on}
use Rattle.listing.proofs.pairs.print_region.Goals as goal

pub dues-n-requires : goal.dues-n-requires
dues-n-requires c = c.requires.holds.ok

pub loop-i-init : goal.loop-i-init
unfolding most
loop-i-init c = region-start c.requires _ _ (omega arith) (omega arith)

pub due_at-d-requires : goal.due_at-d-requires
due_at-d-requires c = record { ok = c.requires.holds.ok; i_bound = omega arith }

pub field_at-kind-requires : goal.field_at-kind-requires
field_at-kind-requires c = record { ok = c.requires.holds.ok; i_bound = field-there c.requires c.loop-i.invariant (omega arith) c.due_at-d.ensures }

pub overflow_add-end : goal.overflow_add-end
overflow_add-end c = record { fits = omega (arith, within-file c.requires c.loop-i.invariant (omega arith) c.due_at-d.ensures, c.requires.small) }

pub slice_bounds-show_chunk-end : goal.slice_bounds-show_chunk-end
slice_bounds-show_chunk-end c = omega (arith, within-file c.requires c.loop-i.invariant (omega arith) c.due_at-d.ensures)

pub show_chunk-p-requires : goal.show_chunk-p-requires
show_chunk-p-requires c = kinds-there c.requires c.loop-i.invariant (omega arith) c.due_at-d.ensures c.field_at-kind.result c.field_at-kind.ensures.result_value

pub loop-i-preserved : goal.loop-i-preserved
loop-i-preserved c = region-on c.requires c.loop-i.invariant (omega arith) c.due_at-d.ensures c.field_at-kind.result c.field_at-kind.ensures.result_value c.show_chunk-p.auto.out c.show_chunk-p.ensures

pub shape_of-out : goal.shape_of-out
shape_of-out c = c.loop-i.invariant.long

pub returns : goal.returns
returns c = region-done c.requires c.loop-i.invariant (omega arith)
