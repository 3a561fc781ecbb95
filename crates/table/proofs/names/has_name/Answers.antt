-- `table::names::has_name` meets its contract. Assumes nothing.
use Rattle.std.proofs.Common.{sym, ap, ◌∙◌, ne_eqb}
use Rattle.paper.specs.Lists.{same}
use Rattle.table.specs.NameLaws.{same-pairs, sums-differ}
use Rattle.table.proofs.names.has_name.Goals as goal

pub returns-then-there-sum : goal.returns-then-there-sum
returns-then-there-sum c = c.eq.ensures ∙ same-pairs c.args.name.now c.part.result.now ∙ ap (same c.args.name.now) c.part.ensures

pub returns-else-there-sum : goal.returns-else-there-sum
returns-else-there-sum c = ne_eqb _ _ c.if-there-sum.false ∙ sym (sums-differ _ _ (λ e. c.if-there-sum.false (c.requires.there_value ∙ e ∙ sym c.requires.sum_value)))
