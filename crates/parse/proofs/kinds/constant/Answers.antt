use Rattle.std.proofs.Common.{arith}
use Rattle.parse.specs.KindLaws.{constant-no-comma, constant-no-value, constant-low, constant_wide, constant-high}
use Rattle.parse.proofs.kinds.constant.Goals as goal

pub returns-in_err-value : goal.returns-in_err-value
returns-in_err-value c = rw c.from_residual.ensures (constant-no-comma _ _ _ c.in_err-value.ensures)

pub returns-in_err-bits : goal.returns-in_err-bits
returns-in_err-bits c = rw c.from_residual-in_err-bits.ensures (constant-no-value _ _ _ c.in_ok-value.ensures c.in_err-bits.ensures)

pub returns-then-bits-half : goal.returns-then-bits-half
returns-then-bits-half c = constant-low _ _ _ c.in_ok-value.ensures _ c.in_ok-bits.ensures c.requires c.half_of-half.ensures (omega arith)

pub returns-then-half-below : goal.returns-then-half-below
returns-then-half-below c = constant_wide _ _ _ c.in_ok-value.ensures _ c.in_ok-bits.ensures c.requires c.half_of-half.ensures (omega arith) (omega arith)

pub overflow_add-kept : goal.overflow_add-kept
overflow_add-kept c = omega (arith, c.half_of-half.ensures.most)

pub returns : goal.returns
returns c = constant-high _ _ _ c.in_ok-value.ensures _ c.in_ok-bits.ensures c.requires c.half_of-half.ensures (omega arith) (omega arith)
