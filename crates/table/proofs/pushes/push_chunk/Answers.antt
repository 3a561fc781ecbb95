-- `table::pushes::push_chunk` meets its contract. Assumes nothing.
use Rattle.std.proofs.Common.{refl, arith}
use Rattle.table.specs.Layout.{starts, width, most}
use Rattle.table.specs.Pushes.{pushed-by}
use Rattle.table.proofs.pushes.push_chunk.Goals as goal

pub returns : goal.returns
unfolding starts width most
returns c = pushed-by 5 refl (omega arith) c.requires.ok (omega arith) c.put.ensures (omega arith) (omega arith) (omega arith)
