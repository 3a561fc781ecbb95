use Rattle.std.proofs.Common.{arith}
use Rattle.std.proofs.Math.Nat.{min-le_right}
use Rattle.parse.specs.MapLaws.{kinds-begin, kinds-room, kinds-next, kinds-bad, kinds-done}
use Rattle.parse.proofs.kinds.map_kinds.Goals as goal

pub loop-init : goal.loop-init
loop-init c = kinds-begin _ _ (omega arith)

pub returns-in_err-e : goal.returns-in_err-e
returns-in_err-e c = rw c.from_residual.ensures (kinds-bad c.loop.invariant c.requires.0 c.requires.1 (omega arith) c.in_err-e.ensures)

pub overflow_mul-packed : goal.overflow_mul-packed
overflow_mul-packed c = omega (arith, kinds-room c.loop.invariant (omega arith) c.requires.1)

pub overflow_add-packed : goal.overflow_add-packed
overflow_add-packed c = omega (arith, min-le_right c.in_ok-e.e 255, kinds-room c.loop.invariant (omega arith) c.requires.1)

pub loop-preserved : goal.loop-preserved
loop-preserved c = rw c.min.ensures (kinds-next c.loop.invariant (omega arith) c.in_ok-e.ensures)

pub returns : goal.returns
returns c = kinds-done c.loop.invariant c.requires.0 c.requires.1 (omega arith)
