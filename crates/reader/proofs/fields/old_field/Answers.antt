-- `reader::fields::old_field` meets its contract. Assumes nothing.
use Rattle.numbers.specs.Cursors.{handed}
use Rattle.reader.specs.RulesHeld.{end-held}
use Rattle.reader.specs.OldLaws.{old-other, old-has-room, old-no, old-got}
use Rattle.reader.proofs.fields.old_field.Goals as goal

pub returns-then-row-t : goal.returns-then-row-t
returns-then-row-t c = old-other c.requires.holds c.requires.fact c.requires.i_bound c.field_at-row.ensures.result_value c.args.added c.args.end c.if-row-t.true

pub returns-in_err-e : goal.returns-in_err-e
returns-in_err-e c = rw (handed c.from_residual.ensures.1) (old-no c.requires.holds c.requires.fact c.requires.i_bound c.field_at-row.ensures.result_value c.if-row-t.false c.args.added c.args.end c.end_offset.ensures c.in_err-e.was)

pub overflow_sub-size : goal.overflow_sub-size
overflow_sub-size c = end-held c.end_offset.ensures c.in_ok-e.was

pub push_due-requires : goal.push_due-requires
push_due-requires c = record { ok = c.requires.holds.ok; work_bound = old-has-room c.requires.holds c.requires.fact c.requires.i_bound c.field_at-row.ensures.result_value c.if-row-t.false }

pub returns : goal.returns
returns c = old-got c.requires.holds c.requires.fact c.requires.i_bound c.field_at-row.ensures.result_value c.if-row-t.false c.args.added c.args.end c.end_offset.ensures c.in_ok-e.was (c.values_due-values.ensures _ _) c.push_due.ensures
