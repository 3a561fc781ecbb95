-- `reader::fields::new_field` meets its contract. Assumes nothing.
use Rattle.numbers.specs.Cursors.{handed}
use Rattle.reader.specs.KindLaws.{kind-was-got}
use Rattle.reader.specs.RulesHeld.{end-held, name-held}
use Rattle.reader.specs.NewRows.{new-has-room}
use Rattle.reader.specs.NewLaws.{new-restricted, new-unkind, new-unnamed, new-unended, new-got}
use Rattle.reader.proofs.fields.new_field.Goals as goal

pub returns-in_err-c1 : goal.returns-in_err-c1
returns-in_err-c1 c = rw (handed c.from_residual.ensures.1) (new-restricted c.requires.holds _ _ _ _ c.no_restrictions.ensures c.in_err-c1.was)

pub returns-in_err-kind : goal.returns-in_err-kind
returns-in_err-kind c = rw (handed c.from_residual-in_err-kind.ensures.1) (new-unkind c.requires.holds _ _ _ _ c.no_restrictions.ensures c.in_ok-c1.was c.read_kind.ensures c.in_err-kind.was)

pub returns-in_err-name : goal.returns-in_err-name
returns-in_err-name c = rw (handed c.from_residual-in_err-name.ensures.1) (new-unnamed c.requires.holds _ _ _ _ c.no_restrictions.ensures c.in_ok-c1.was c.read_kind.ensures c.in_ok-kind.was c.field_name.ensures c.in_err-name.was)

pub returns-in_err-e : goal.returns-in_err-e
returns-in_err-e c = rw (handed c.from_residual-in_err-e.ensures.1) (new-unended c.requires.holds _ _ _ _ c.no_restrictions.ensures c.in_ok-c1.was c.read_kind.ensures c.in_ok-kind.was c.field_name.ensures c.in_ok-name.was c.end_offset.ensures c.in_err-e.was)

pub overflow_sub-size : goal.overflow_sub-size
overflow_sub-size c = end-held c.end_offset.ensures c.in_ok-e.was

pub add_field-requires : goal.add_field-requires
add_field-requires c = record { holds = c.requires.holds; le_name = name-held c.requires.holds c.args.t c.field_name.ensures c.in_ok-name.was; first_bound = (kind-was-got c.read_kind.ensures c.in_ok-kind.was).first; work_bound = (c.requires.work_bound, new-has-room c.requires.holds c.requires.fact c.requires.work_bound) }

pub returns : goal.returns
returns c = new-got c.requires.holds _ _ _ _ c.no_restrictions.ensures c.in_ok-c1.was c.read_kind.ensures c.in_ok-kind.was c.field_name.ensures c.in_ok-name.was c.end_offset.ensures c.in_ok-e.was c.add_field.ensures c.requires.fact c.requires.work_bound
