use Rattle.std.proofs.Common.{arith}
use Rattle.words.specs.Pairs.{summed-small, values-are}
use Rattle.words.proofs.read.values_of.Goals as goal

pub overflow_mul-result : goal.overflow_mul-result
overflow_mul-result c = omega (arith, (summed-small c.args.pair (omega arith)).0)

pub overflow_add-result : goal.overflow_add-result
overflow_add-result c = omega (arith, (summed-small c.args.pair (omega arith)).1)

pub returns : goal.returns
returns c = values-are c.args.pair (omega arith)
