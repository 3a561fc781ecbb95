use Rattle.std.proofs.Common.{sym, arith}
use Rattle.calls.specs.Table.{objects-short, objects-long, front_long}
use Rattle.calls.proofs.objects.Goals as goal

pub returns-then-work-needed : goal.returns-then-work-needed
returns-then-work-needed c = objects-short _ _ (omega arith) _

pub slice_bounds-objects_in-end-2 : goal.slice_bounds-objects_in-end-2
slice_bounds-objects_in-end-2 c = sym (front_long c.args.work.now c.if-work-needed.false)

pub objects_in-requires : goal.objects_in-requires
objects_in-requires c = front_long c.args.work.now c.if-work-needed.false

pub returns : goal.returns
returns c = objects-long _ _ c.if-work-needed.false _ c.objects_in.ensures.1 _ c.objects_in.ensures.0
