use Rattle.std.proofs.Common.{arith}
use Rattle.values.specs.Held.{bools-all}
use Rattle.values.proofs.runs.bools.Goals as goal

pub returns-then-are_bools : goal.returns-then-are_bools
returns-then-are_bools c = bools-all _ (omega arith) (c.are_bools.ensures c.if-are_bools.true)
