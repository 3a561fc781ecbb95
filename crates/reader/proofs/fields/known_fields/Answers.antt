-- `reader::fields::known_fields` meets its contract. Assumes nothing.
use Rattle.reader.specs.FieldLaws.{none-known, all_known}
use Rattle.reader.proofs.fields.known_fields.Goals as goal

pub returns-then-added-eq0 : goal.returns-then-added-eq0
returns-then-added-eq0 c = none-known _ c.args.t c.if-added-eq0.true

pub returns : goal.returns
returns c = all_known _ c.args.t c.if-added-eq0.false c.fields_of.ensures
