-- `reader::fields::judged_field_name` meets its contract. Assumes nothing.
use Rattle.std.proofs.Common.{refl, ap, arith}
use Rattle.table.specs.Asks.{found}
use Rattle.reader.specs.FieldNames.{name-nought, name-past, name-used, name_free}
use Rattle.reader.proofs.fields.judged_field_name.Goals as goal

pub returns-then-n-eq0 : goal.returns-then-n-eq0
returns-then-n-eq0 c = name-nought c.requires c.args.t c.if-n-eq0.true

pub returns-then-strings-n : goal.returns-then-strings-n
returns-then-strings-n c = name-past c.requires c.args.t (omega arith)

pub find_field-other-requires : goal.find_field-other-requires
find_field-other-requires c = record { holds = c.requires; end_in_bounds = c.string_at-name.ensures.within c.args.names.now c.requires }

pub returns-in-Some : goal.returns-in-Some
returns-in-Some c = name-used c.requires c.args.t (omega arith) (omega arith) c.string_at-name.ensures c.find_field-other.ensures (ap found c.in-Some.is)

pub returns-in-None : goal.returns-in-None
returns-in-None c = name_free c.requires c.args.t (omega arith) (omega arith) c.string_at-name.ensures c.find_field-other.ensures refl (ap found c.in-None.is)
