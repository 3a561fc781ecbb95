use Rattle.std.proofs.Common.{◌≡◌, ◌+◌, ◌-◌, arith}
use Rattle.numbers.proofs.V64Laws.{reading-start, reading-cut, reading-last, reading-next, fits}
use Rattle.numbers.proofs.v64_on.Goals as goal

pub loop-i-init : goal.loop-i-init
loop-i-init c = reading-start c.requires

pub returns-then-s-p : goal.returns-then-s-p
returns-then-s-p c = rw c.refuse.ensures (reading-cut c.loop-i.invariant (omega arith))

pub overflow_mul-high : goal.overflow_mul-high
overflow_mul-high c = omega (arith, fits c.loop-i.invariant c.wide-b.result c.wide-b.ensures.1)

pub overflow_add-sum : goal.overflow_add-sum
overflow_add-sum c = omega (arith, fits c.loop-i.invariant c.wide-b.result c.wide-b.ensures.1)

pub returns-then-b-lt128 : goal.returns-then-b-lt128
returns-then-b-lt128 c = reading-last c.loop-i.invariant _ (omega arith) c.wide-b.ensures.0 _ (omega arith) (λ i. omega arith) c.wide-b.ensures.1

pub overflow_mul-part : goal.overflow_mul-part
overflow_mul-part c = omega (arith, fits c.loop-i.invariant (c.wide-b.result - 128) (omega arith))

pub overflow_add-x : goal.overflow_add-x
overflow_add-x c = omega (arith, fits c.loop-i.invariant (c.wide-b.result - 128) (omega arith))

pub overflow_mul-weight : goal.overflow_mul-weight
overflow_mul-weight c = omega (arith, fits c.loop-i.invariant 0 (omega arith))

pub loop-i-preserved : goal.loop-i-preserved
loop-i-preserved c =
    let less : 7 - (c.loop-i._i + 1) ≡ 7 - c.loop-i._i - 1 = omega arith in
    rw less (reading-next c.loop-i.invariant _ (omega arith) c.wide-b.ensures.0 _ (omega arith) (omega arith) (omega arith) c.wide-b.ensures.1)

pub returns-then-s-p-2 : goal.returns-then-s-p-2
returns-then-s-p-2 c = rw c.refuse-then-s-p-2.ensures (reading-cut c.loop-i.invariant (omega arith))

pub returns : goal.returns
returns c = reading-last c.loop-i.invariant _ (omega arith) c.wide-b-2.ensures.0 _ (omega arith) (λ i. omega arith) c.wide-b-2.ensures.1

pub overflow_mul-top : goal.overflow_mul-top
overflow_mul-top c = omega (arith, fits c.loop-i.invariant c.wide-b-2.result c.wide-b-2.ensures.1)

pub overflow_add-sum-2 : goal.overflow_add-sum-2
overflow_add-sum-2 c = omega (arith, fits c.loop-i.invariant c.wide-b-2.result c.wide-b-2.ensures.1)
