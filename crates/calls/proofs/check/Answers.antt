use Rattle.std.proofs.Common.{sym, arith}
use Rattle.calls.specs.Table.{check-short, check-long, front_long}
use Rattle.calls.proofs.check.Goals as goal

pub returns-then-work-needed : goal.returns-then-work-needed
returns-then-work-needed c = check-short _ _ (omega arith)

pub slice_bounds-check_in-end-2 : goal.slice_bounds-check_in-end-2
slice_bounds-check_in-end-2 c = sym (front_long c.args.work.now c.if-work-needed.false)

pub check_in-requires : goal.check_in-requires
check_in-requires c = front_long c.args.work.now c.if-work-needed.false

pub returns : goal.returns
returns c = check-long _ _ c.if-work-needed.false _ c.check_in.ensures.1 c.check_in.ensures.0
