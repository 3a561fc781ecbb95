-- `judge::fields::new_text` meets its contract. Assumes nothing.
use Rattle.std.proofs.Common.{arith}
use Rattle.reader.specs.Keeping.{judged-keeps, judged-breaks}
use Rattle.reader.specs.NewRows.{new-has-room}
use Rattle.judge.specs.Taken.{taken, untaken}
use Rattle.judge.specs.FieldsNew.{name-held, new-first, new-unread, new-unnamed, new-got}
use Rattle.judge.proofs.fields.new_text.Goals as goal

pub returns-in_err-line : goal.returns-in_err-line
returns-in_err-line c = rw c.from_residual.ensures (new-unread c.requires.holds _ _ c.new_line.ensures c.in_err-line.was)

pub returns-in_err-ok : goal.returns-in_err-ok
returns-in_err-ok c = rw c.from_residual-in_err-ok.ensures (new-unnamed c.requires.holds _ _ c.new_line.ensures c.in_ok-line.was (judged-breaks _ (omega arith) c.judged_field_name.ensures (untaken c.in_err-ok.ensures.value).1))

pub add_field-requires : goal.add_field-requires
add_field-requires c = let kept = judged-keeps _ (omega arith) c.judged_field_name.ensures (taken c.in_ok-ok.ensures.value) in record { holds = c.requires.holds; le_name = name-held c.requires.holds c.args.t kept; first_bound = new-first c.new_line.ensures c.in_ok-line.was; work_bound = (c.requires.work_bound, new-has-room c.requires.holds c.requires.fact c.requires.work_bound) }

pub returns : goal.returns
returns c = new-got c.requires.holds _ _ c.new_line.ensures c.in_ok-line.was (judged-keeps _ (omega arith) c.judged_field_name.ensures (taken c.in_ok-ok.ensures.value)) c.add_field.ensures c.requires.fact c.requires.work_bound
