-- `table::counts::clear` meets its contract. Assumes nothing.
use Rattle.std.proofs.Common.{◌∙◌}
use Rattle.table.specs.Counts.{noughts-of}
use Rattle.table.proofs.counts.clear.Goals as goal

pub returns : goal.returns
returns c = c.fill.ensures.after (λ y e. e) ∙ noughts-of c.args.work.now c.requires
