-- The invariant: ranges from the place that was met last on were gathered, and all of them if they have as many objects. Assumes
-- nothing.
use Rattle.std.proofs.Common.{arith, sym, ◌∙◌}
use Rattle.table.specs.View.{log_of}
use Rattle.lookups.specs.Gather.{linking-start, linking-on, link-room, linked-all, all_found, end_fits}
use Rattle.lookups.proofs.ranges.gather_linked.Goals as goal

pub loop-sum-init : goal.loop-sum-init
loop-sum-init c = linking-start _ _ _ _ _ (c.ranges-met.ensures ∙ sym c.requires.ok.0.log-count)

pub overflow_add-r : goal.overflow_add-r
overflow_add-r c = omega (arith, end_fits (log_of c.args.work.now) c.loop-sum.i (omega (arith, c.loop-sum.invariant.there)) c.range_at-r.ensures.result_value c.requires.ok.1.low (omega (arith, c.loop-sum.invariant.there, c.requires.ok.0.log-count, c.requires.ok.0.log-fit)))

pub put_range-k-requires : goal.put_range-k-requires
put_range-k-requires c = let L = c.loop-sum.invariant in (omega (arith, L.first-long, c.requires.to_in_bounds.0), omega (arith, L.last-long, c.requires.to_in_bounds.1), L.below, link-room L (omega arith) c.range_at-r.ensures.result_value c.if-r-t.false c.requires.ok.1 c.requires.to_in_bounds.2, omega arith)

pub loop-sum-preserved : goal.loop-sum-preserved
loop-sum-preserved c = linking-on c.loop-sum.invariant (omega arith) c.range_at-r.ensures.result_value c.if-r-t.false c.put_range-k.ensures

pub returns : goal.returns
returns c = all_found (linked-all c.loop-sum.invariant c.requires.ok.1 (omega (arith, c.objects_of-objects.ensures.value)))
