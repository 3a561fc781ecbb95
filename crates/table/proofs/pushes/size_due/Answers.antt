-- `table::pushes::size_due` meets its contract. Assumes nothing.
use Rattle.table.specs.Sizes.{due-sized}
use Rattle.table.proofs.pushes.size_due.Goals as goal

pub returns : goal.returns
returns c = due-sized _ _ c.requires.ok c.requires.i_bound c.put.ensures
