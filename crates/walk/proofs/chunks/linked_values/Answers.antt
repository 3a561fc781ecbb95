-- `walk::chunks::linked_values` meets its contract. Assumes nothing.
use Rattle.std.proofs.Common.{refl}
use Rattle.walk.specs.Steps.{objects-valued}
use Rattle.walk.proofs.chunks.linked_values.Goals as goal

pub returns-then-kind-lt64 : goal.returns-then-kind-lt64
returns-then-kind-lt64 c file holds = objects-valued c.requires.kinds.0 c.if-kind-ge32.true c.requires.kinds.3 refl holds c.object_values.ensures
