use Rattle.std.proofs.Common.{arith}
use Rattle.numbers.proofs.FixedLaws.{sum-none, sum_more, sum_fits, sum-whole, too_short}
use Rattle.numbers.proofs.fixed_at.Goals as goal

pub returns-then-s-at : goal.returns-then-s-at
returns-then-s-at c = rw c.refuse.ensures (too_short _ _ _ (omega arith))

pub returns-then-s-at-2 : goal.returns-then-s-at-2
returns-then-s-at-2 c = rw c.refuse-then-s-at-2.ensures (too_short _ _ _ (omega arith))

pub loop-i-init : goal.loop-i-init
loop-i-init c = sum-none _ _ _

pub overflow_mul-x : goal.overflow_mul-x
overflow_mul-x c = omega (arith, sum_fits c.loop-i.invariant (omega arith) (omega arith) (omega arith))

pub overflow_add-x : goal.overflow_add-x
overflow_add-x c = omega (arith, sum_fits c.loop-i.invariant (omega arith) (omega arith) (omega arith))

pub loop-i-preserved : goal.loop-i-preserved
loop-i-preserved c = sum_more c.loop-i.invariant (omega arith) c.wide-b.result _ (omega arith) (omega arith) c.wide-b.ensures.0 c.wide-b.ensures.1

pub returns : goal.returns
returns c = sum-whole c.loop-i.invariant (omega arith) (omega arith)
