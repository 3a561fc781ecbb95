-- `walk::chunks::values_of` meets its contract. Assumes nothing.
use Rattle.std.proofs.Common.{arith}
use Rattle.walk.specs.Steps.{constant-valued, plain-valued}
use Rattle.walk.proofs.chunks.values_of.Goals as goal

pub returns-then-kind-le4 : goal.returns-then-kind-le4
returns-then-kind-le4 c file holds noted = constant-valued _ c.if-kind-le4.true

pub returns : goal.returns
returns c file holds noted = plain-valued holds c.strings.ensures (omega arith) c.if-kind-eq20.false (omega arith) noted c.chunk_values.ensures
