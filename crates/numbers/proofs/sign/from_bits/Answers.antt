use Rattle.std.proofs.Common.{◌-◌, arith}
use Rattle.numbers.proofs.SignLaws.{down_fits, low_half, high_half}
use Rattle.numbers.proofs.sign.from_bits.Goals as goal

pub returns-then-x-half : goal.returns-then-x-half
returns-then-x-half c w two = low_half _ _ (omega arith) w two (omega arith)

pub overflow_sub-result : goal.overflow_sub-result
overflow_sub-result c = let a = c.args in
    down_fits (a.half - 1 - (a.x - a.half)) (omega arith)

pub returns : goal.returns
returns c w two = high_half _ _ (omega arith) w two (omega arith) (omega arith)
