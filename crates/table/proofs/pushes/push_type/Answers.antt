-- `table::pushes::push_type` meets its contract. Assumes nothing.
use Rattle.std.proofs.Common.{arith}
use Rattle.table.specs.Layout.{starts, width, most}
use Rattle.table.specs.Pushes.{pushed-type-by}
use Rattle.table.proofs.pushes.push_type.Goals as goal

pub returns : goal.returns
unfolding starts width most
returns c = pushed-type-by c.args.t c.requires.ok (omega arith) c.put.ensures
