use Rattle.std.proofs.Common.{arith}
use Rattle.lay.specs.Laid.{most}
use Rattle.fronts.specs.Maps.{kinds-begin, kinds-done, kinds-no-comma, kinds-no-number, kinds-next}
use Rattle.fronts.proofs.maps.put_kinds.Goals as goal

pub loop-init : goal.loop-init
unfolding most
loop-init c = kinds-begin _ _ _ _ (omega arith) (omega arith) (omega arith)

pub returns-in_default : goal.returns-in_default
returns-in_default c = kinds-no-comma c.loop.invariant (omega arith) c.in_default.ensures

pub returns-in_default-natural : goal.returns-in_default-natural
returns-in_default-natural c = kinds-no-number c.loop.invariant (omega arith) c.in-Some.ensures c.in_default-natural.ensures

pub loop-preserved : goal.loop-preserved
loop-preserved c = kinds-next c.loop.invariant (omega arith) c.in-Some.ensures c.in-Some-natural.ensures c.put_v64-to.auto.out c.put_v64-to.ensures

pub returns : goal.returns
returns c = kinds-done c.loop.invariant (omega arith)
