use Rattle.std.proofs.Common.{sym, length-take-le}
use Rattle.demands.specs.Trips.{build-room, built-back, unbuilt-back}
use Rattle.demands.proofs.comes_back.Goals as goal

pub slice_bounds-built_again-end : goal.slice_bounds-built_again-end
slice_bounds-built_again-end c = build-room _ _ _ c.build.ensures c.in_ok-n.was

pub slice_bounds-built_again-end-2 : goal.slice_bounds-built_again-end-2
slice_bounds-built_again-end-2 c = sym (length-take-le _ _ (build-room _ _ _ c.build.ensures c.in_ok-n.was))

pub returns : goal.returns
returns c = λ long. built-back _ _ _ c.build.ensures c.in_ok-n.was c.args.again.now _ c.built_again.ensures long

pub returns-in_err-n : goal.returns-in_err-n
returns-in_err-n c = λ long. unbuilt-back _ _ _ c.build.ensures c.in_err-n.was _ c.args.again.now _ _ long
