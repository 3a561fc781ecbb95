-- `table::counts::clear_tallies` meets its contract. Assumes nothing.
use Rattle.std.proofs.Common.{ℕ, replicate, ap, ◌∙◌}
use Rattle.table.specs.Counts.{zeroed, length-mid}
use Rattle.table.proofs.counts.clear_tallies.Goals as goal

pub returns : goal.returns
returns c = zeroed c.args.work.now c.requires (c.fill.ensures.after (λ y e. e) ∙ ap (λ (n : ℕ). replicate n 0) (length-mid c.args.work.now c.requires))
