use Rattle.std.proofs.Common.{sym, arith}
use Rattle.calls.specs.Table.{fill-short, fill-long, front_long}
use Rattle.calls.proofs.fill_values.Goals as goal

pub returns-then-work-needed : goal.returns-then-work-needed
returns-then-work-needed c = fill-short _ _ (omega arith) _ _ _ _

pub slice_bounds-fill_in-end-2 : goal.slice_bounds-fill_in-end-2
slice_bounds-fill_in-end-2 c = sym (front_long c.args.work.now c.if-work-needed.false)

pub fill_in-requires : goal.fill_in-requires
fill_in-requires c = front_long c.args.work.now c.if-work-needed.false

pub returns : goal.returns
returns c = fill-long _ _ c.if-work-needed.false _ c.fill_in.ensures.1 _ _ _ c.fill_in.ensures.0
