-- `table::counts::next_block` meets its contract. Assumes nothing.
use Rattle.std.proofs.Common.{◌+◌, get_or, subst}
use Rattle.table.specs.Counts.{next_of, Recounted}
use Rattle.table.specs.declared.rows.Counts.{Counts}
use Rattle.table.proofs.counts.next_block.Goals as goal

pub returns : goal.returns
returns c = let l = c.args.work.now in next_of c.requires.ok (subst (λ (n : Counts). Recounted n (get_or l 6 0 + 1) l c.set_counts.new.work) c.counts-n.ensures c.set_counts.ensures.recounted) c.set_counts.ensures.work_after.0 c.set_counts.ensures.work_after.1
