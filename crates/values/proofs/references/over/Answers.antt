use Rattle.std.proofs.Common.{◌/◌, ◌≤◌, mul-le-mul_left, arith}
use Rattle.values.proofs.references.over.Goals as goal

pub overflow_mul-result : goal.overflow_mul-result
overflow_mul-result c = let one : c.wrapping_sub_u64-below.result / 9223372036854775808 ≤ 1 = omega (arith, c.wrapping_sub_u64-below.type_inv) in record { fits = omega (arith, mul-le-mul_left c.args.half one) }

pub returns : goal.returns
returns c = let one : c.wrapping_sub_u64-below.result / 9223372036854775808 ≤ 1 = omega (arith, c.wrapping_sub_u64-below.type_inv) in omega (arith, mul-le-mul_left c.args.half one)
