-- `walk::chunks::fill` meets its contract: a law for each of its four ways out. Assumes nothing.
use Rattle.std.proofs.Common.{ap}
use Rattle.numbers.specs.Faults.{number_of, one_fault}
use Rattle.numbers.specs.declared.Fault.TheVariants.{Short}
use Rattle.walk.specs.Steps.{part-used, bytes_left, part-short, part-refused}
use Rattle.walk.proofs.chunks.fill.Goals as goal

pub returns-then-c-size : goal.returns-then-c-size
returns-then-c-size c = part-used c.args.at c.args.size c.in-Ok.is c.if-c-size.true

pub returns-in-Short : goal.returns-in-Short
returns-in-Short c = part-short c.args.at c.args.size c.in-Err.is (ap number_of c.in-Short.is)

pub returns-else-c-size : goal.returns-else-c-size
returns-else-c-size c = bytes_left c.args.at c.args.size c.in-Ok.is c.if-c-size.false

pub returns-in_default : goal.returns-in_default
returns-in_default c = part-refused c.args.at c.args.size c.in-Err.is (λ h. c.in_default.not-Short (one_fault _ Short h))
