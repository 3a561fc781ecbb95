-- `table::ranges::objects_of` meets its contract. Assumes nothing.
use Rattle.std.proofs.Common.{rules}
use Rattle.paper.specs.Ledger.{of?}
use Rattle.table.proofs.ranges.objects_of.Goals as goal

pub returns-clause-value : goal.returns-clause-value
unfolding of?
returns-clause-value c = c.sum_of.ensures.value (of? c.args.t) (λ r b answers. search rules)
