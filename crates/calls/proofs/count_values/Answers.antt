use Rattle.std.proofs.Common.{sym, arith}
use Rattle.calls.specs.Table.{count-short, count_long, front_long}
use Rattle.calls.proofs.count_values.Goals as goal

pub returns-then-work-needed : goal.returns-then-work-needed
returns-then-work-needed c = count-short _ _ (omega arith) _ _ _

pub slice_bounds-count_in-end-2 : goal.slice_bounds-count_in-end-2
slice_bounds-count_in-end-2 c = sym (front_long c.args.work.now c.if-work-needed.false)

pub count_in-requires : goal.count_in-requires
count_in-requires c = front_long c.args.work.now c.if-work-needed.false

pub returns : goal.returns
returns c = count_long _ _ c.if-work-needed.false _ c.count_in.ensures.1 _ _ _ c.count_in.ensures.0
