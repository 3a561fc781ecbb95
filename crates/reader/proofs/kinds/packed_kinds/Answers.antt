use Rattle.std.proofs.Common.{arith, ◌≡◌, ◌-◌}
use Rattle.numbers.specs.Cursors.{handed}
use Rattle.reader.specs.MapKinds.{kinds-begin, kinds-room, kinds-fit, kinds-no, kinds-next, kinds-done}
use Rattle.reader.proofs.kinds.packed_kinds.Goals as goal

pub loop-init : goal.loop-init
loop-init c = let all : c.args.count - 0 ≡ c.args.count = omega arith in rw all (kinds-begin _ _ _ c.requires)

pub returns-in_err-k : goal.returns-in_err-k
returns-in_err-k c = rw (handed c.from_residual.ensures.1) (kinds-no c.loop.invariant (omega arith) c.element_kind.ensures c.in_err-k.was)

pub overflow_mul-packed : goal.overflow_mul-packed
overflow_mul-packed c = omega (arith, kinds-room c.loop.invariant (omega arith))

pub overflow_add-packed : goal.overflow_add-packed
overflow_add-packed c = omega (arith, kinds-fit c.loop.invariant (omega arith) _ c.min.ensures)

pub loop-preserved : goal.loop-preserved
loop-preserved c = kinds-next c.loop.invariant (omega arith) c.element_kind.ensures c.in_ok-k.was c.min.ensures (omega arith)

pub returns : goal.returns
returns c = kinds-done c.loop.invariant (omega arith)
