use Rattle.std.proofs.Common.{refl, arith}
use Rattle.pace.specs.Sum.{summing_start, summing-no, summing-next, summing-done}
use Rattle.pace.proofs.pace_sum_v64.Goals as goal

pub loop-init : goal.loop-init
loop-init c = (omega arith, refl, summing_start _ (omega arith))

pub returns-in_default : goal.returns-in_default
returns-in_default c = summing-no c.loop.invariant.2 (omega arith) c.v64.ensures c.in_default.is

pub loop-preserved : goal.loop-preserved
loop-preserved c = (omega arith, refl, summing-next c.loop.invariant.2 (omega arith) c.v64.ensures c.in-Ok.is refl (omega arith))

pub returns : goal.returns
returns c = summing-done c.loop.invariant.2 (omega arith)
