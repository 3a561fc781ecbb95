use Rattle.std.proofs.Common.{sym}
use Rattle.calls.specs.Table.{front_long}
use Rattle.build.specs.Call.{build-short, build-long}
use Rattle.build.proofs.build.Goals as goal

pub returns-then-work-needed : goal.returns-then-work-needed
returns-then-work-needed c = build-short _ _ _ c.if-work-needed.true

pub slice_bounds-build_in-end-2 : goal.slice_bounds-build_in-end-2
slice_bounds-build_in-end-2 c = sym (front_long c.args.work.now c.if-work-needed.false)

pub build_in-requires : goal.build_in-requires
build_in-requires c = front_long c.args.work.now c.if-work-needed.false

pub returns : goal.returns
returns c = build-long _ _ c.if-work-needed.false _ c.build_in.ensures.1 c.build_in.ensures.0
