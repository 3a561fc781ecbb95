use Rattle.std.proofs.Common.{arith}
use Rattle.numbers.proofs.TurnLaws.{turn-none, turn-fits, turn_more, turn-all}
use Rattle.numbers.proofs.turned.Goals as goal

pub loop-i-init : goal.loop-i-init
loop-i-init g c = turn-none _ _

pub overflow_mul-y : goal.overflow_mul-y
overflow_mul-y g c = omega (arith, turn-fits c.loop-i.invariant (omega arith) (omega arith))

pub overflow_add-y : goal.overflow_add-y
overflow_add-y g c = omega (arith, turn-fits c.loop-i.invariant (omega arith) (omega arith))

pub loop-i-preserved : goal.loop-i-preserved
loop-i-preserved g c = turn_more c.loop-i.invariant (omega arith)

pub returns : goal.returns
returns g c = turn-all c.loop-i.invariant (omega arith)
