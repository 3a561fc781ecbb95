-- `judge::fields::due_if_known` meets its contract. Assumes nothing.
use Rattle.judge.specs.FieldsKnown.{old-other, old-has-room, old-mine}
use Rattle.judge.proofs.fields.due_if_known.Goals as goal

pub returns-then-row-t : goal.returns-then-row-t
returns-then-row-t c = old-other _ c.requires.i_bound c.field_at-row.ensures.result_value c.args.added c.if-row-t.true

pub push_due-requires : goal.push_due-requires
push_due-requires c = record { ok = c.requires.ready.holds.ok; work_bound = old-has-room _ c.requires.i_bound c.field_at-row.ensures.result_value c.args.added c.if-row-t.false c.requires.ready }

pub returns : goal.returns
returns c = old-mine _ c.requires.i_bound c.field_at-row.ensures.result_value c.args.added c.if-row-t.false (c.values_due-values.ensures _ _) c.push_due.ensures
