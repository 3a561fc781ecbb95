use Rattle.std.proofs.Common.{mul-le-mul_left, arith}
use Rattle.values.specs.Chunks.{chunk-array, chunk-plain, chunk-lists}
use Rattle.values.proofs.chunks.chunk_values.Goals as goal
use Rattle.values.proofs.chunks.chunk_values.Goals.{in_default-via-then-k-lt17, in_default-via-else-k-lt17+else-k-lt20}

pub overflow_mul-all : goal.overflow_mul-all
overflow_mul-all c = omega (arith, mul-le-mul_left c.args.n (c.requires.0.length c.in-15.is))

pub elements-requires : goal.elements-requires
elements-requires c = ((c.requires.0.element c.requires.1 c.requires.2), omega arith)

pub lists_of-requires : goal.lists_of-requires
lists_of-requires c = c.requires.0.element c.requires.1 c.requires.2

pub elements-requires-in_default : goal.elements-requires-in_default
elements-requires-in_default c = ((c.requires.0.element c.requires.1 c.requires.2), omega arith)

pub returns-in-15 : goal.returns-in-15
returns-in-15 c = chunk-array (c.requires.0.element c.requires.1 c.requires.2) c.in-15.is c.elements.ensures

pub returns-in-17-to-19 : goal.returns-in-17-to-19
returns-in-17-to-19 c = chunk-lists (c.requires.0.element c.requires.1 c.requires.2) (omega arith) (omega arith) c.lists_of.ensures

pub returns-in_default : goal.returns-in_default
returns-in_default c = chunk-plain (c.requires.0.element c.requires.1 c.requires.2) c.requires.1 (λ q. omega arith) (λ h. elim c.in_default.branch [
  | in_default-via-then-k-lt17 w ↦ omega arith
  | in_default-via-else-k-lt17+else-k-lt20 w ↦ omega arith
]) c.requires.2 c.elements-in_default.ensures
