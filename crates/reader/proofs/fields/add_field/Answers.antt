-- `reader::fields::add_field` meets its contract. Assumes nothing.
use Rattle.reader.specs.NewRows.{field-added-by}
use Rattle.reader.proofs.fields.add_field.Goals as goal

pub returns : goal.returns
returns c = field-added-by c.requires.holds c.requires.work_bound.0 c.requires.work_bound.1 c.args.t c.args.objects c.args.name c.args.kind c.args.size c.string_at-text.ensures c.string_sum-sum.ensures c.fields-i.ensures c.push_field.ensures (c.values_due-values.ensures _ _) c.push_due.ensures
