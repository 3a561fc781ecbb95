use Rattle.std.proofs.Common.{arith}
use Rattle.lay.specs.Laid.{most}
use Rattle.fronts.specs.Puts.{going_start, going_on, going-no, going_done}
use Rattle.fronts.proofs.put_fields.Goals as goal

pub loop-init : goal.loop-init
unfolding most
loop-init c = going_start _ _ _ _ _ _ _ (omega arith) (omega arith) (omega arith)

pub returns-in_err-here : goal.returns-in_err-here
returns-in_err-here c = going-no c.loop.invariant (omega arith) c.in_err-here.ensures

pub loop-preserved : goal.loop-preserved
loop-preserved c = going_on c.loop.invariant (omega arith) c.put_field.auto.out c.in_ok-here.ensures

pub returns : goal.returns
returns c = going_done c.loop.invariant (omega arith)
