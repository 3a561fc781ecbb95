use Rattle.table.specs.Pushes.{pushed-field-by}
use Rattle.table.proofs.pushes.push_field.Goals as goal

pub returns : goal.returns
returns c = pushed-field-by c.args.d c.requires.ok c.requires.work_bound c.put_field.ensures c.tally_field.ensures
