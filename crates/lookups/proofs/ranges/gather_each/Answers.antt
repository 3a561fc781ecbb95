-- The invariant: the ranges from the i-th on were gathered. Assumes nothing.
use Rattle.std.proofs.Common.{arith, ◌-◌}
use Rattle.table.specs.View.{log_of}
use Rattle.lookups.specs.Gather.{gathering-start, gathering-passed, gathering-taken, gather-room, end_fits}
use Rattle.lookups.proofs.ranges.gather_each.Goals as goal

pub loop-i-init : goal.loop-i-init
loop-i-init c = (omega (arith, c.ranges-i.ensures, c.requires.ok.0.log-count), gathering-start _ _ _ _ _ (omega (arith, c.ranges-i.ensures, c.requires.ok.0.log-count)))

pub overflow_add-r : goal.overflow_add-r
overflow_add-r c = omega (arith, end_fits (log_of c.args.work.now) (c.loop-i.i - 1) (omega arith) c.range_at-r.ensures.result_value c.requires.ok.1.low (omega arith))

pub put_range-k-requires : goal.put_range-k-requires
put_range-k-requires c = let G = c.loop-i.invariant.1 in (omega (arith, G.first-long, c.requires.to_in_bounds.0), omega (arith, G.last-long, c.requires.to_in_bounds.1), G.below, gather-room (c.loop-i.i - 1) G (omega arith) (omega arith) c.range_at-r.ensures.result_value c.if-r-t.true c.requires.ok.1 c.requires.to_in_bounds.2, omega arith)

pub loop-i-preserved-then-r-t : goal.loop-i-preserved-then-r-t
loop-i-preserved-then-r-t c = (omega arith, gathering-taken (c.loop-i.i - 1) c.loop-i.invariant.1 (omega arith) (omega arith) c.range_at-r.ensures.result_value c.if-r-t.true c.put_range-k.ensures)

pub loop-i-preserved : goal.loop-i-preserved
loop-i-preserved c = (omega arith, gathering-passed (c.loop-i.i - 1) c.loop-i.invariant.1 (omega arith) (omega arith) c.range_at-r.ensures.result_value c.if-r-t.false)
