use Rattle.numbers.specs.Cursors.{handed, was-got}
use Rattle.values.specs.Chunks.{counting-start, counting-cut, counting-no, counting-next, counting-done}
use Rattle.values.proofs.chunks.lists_by.Goals as goal

pub loop-init : goal.loop-init
loop-init g c = counting-start _ _ _

pub returns-in_err-m : goal.returns-in_err-m
returns-in_err-m g c = rw (handed c.from_residual.ensures.1) (counting-cut c.loop.invariant c.loop-test.true c.small.ensures c.in_err-m.was)

pub read-requires : goal.read-requires
read-requires g c = c.requires.may-read _ _ ((was-got c.small.ensures c.in_ok-m.was).inside c.loop.invariant.inside)

pub returns-in_err-next : goal.returns-in_err-next
returns-in_err-next g c = rw (handed c.from_residual-in_err-next.ensures.1) (counting-no c.loop.invariant c.loop-test.true c.small.ensures c.in_ok-m.was c.read.ensures c.in_err-next.was)

pub loop-preserved : goal.loop-preserved
loop-preserved g c = counting-next c.loop.invariant c.loop-test.true c.small.ensures c.in_ok-m.was c.read.ensures (λ h. c.requires.inside _ _ _ h c.read.ensures) c.in_ok-next.was

pub returns : goal.returns
returns g c = counting-done c.loop.invariant c.loop-test.false
