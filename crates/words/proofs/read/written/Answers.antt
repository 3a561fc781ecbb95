use Rattle.std.proofs.Common.{arith}
use Rattle.words.specs.Pairs.{letters-are, written-are}
use Rattle.words.proofs.read.written.Goals as goal

pub overflow_mul-result : goal.overflow_mul-result
overflow_mul-result c = omega (arith, letters-are c.args.values c.requires, c.requires.0, c.requires.1)

pub overflow_add-result-3 : goal.overflow_add-result-3
overflow_add-result-3 c = omega (arith, letters-are c.args.values c.requires, c.requires.0, c.requires.1)

pub returns : goal.returns
returns c = written-are c.args.values c.requires
