-- `table::counts::cut_back` meets its contract. Assumes nothing.
use Rattle.table.specs.Counts.{cut_of}
use Rattle.table.proofs.counts.cut_back.Goals as goal

pub returns : goal.returns
returns c = cut_of c.args.n c.requires.ok c.requires.not_above c.set_counts.ensures.recounted c.set_counts.ensures.work_after.0 c.set_counts.ensures.work_after.1
