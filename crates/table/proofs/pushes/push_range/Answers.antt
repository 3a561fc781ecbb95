-- `table::pushes::push_range` meets its contract. Assumes nothing.
use Rattle.table.specs.View.{tally}
use Rattle.table.specs.Pushes.{pushed-range-by}
use Rattle.table.proofs.pushes.push_range.Goals as goal

pub returns : goal.returns
returns c = pushed-range-by c.args.r c.super_of-up.result (tally c.args.work.now c.args.r.typ 4) c.requires.ok c.requires.work_bound c.requires.small c.super_of-up.ensures c.put.ensures c.tally_range.ensures
