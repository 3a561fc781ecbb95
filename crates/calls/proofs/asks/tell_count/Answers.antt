use Rattle.std.proofs.Common.{sym, ◌∙◌, arith}
use borrow.Author.Tests.{not-true}
use Rattle.calls.specs.Told.{answer_of, values-none, sought-16, sought-17}
use Rattle.calls.specs.Sought.{no-type, a-type, no-field, a-field, declared, other-kind, all_there, counted-here}
use Rattle.calls.proofs.asks.tell_count.Goals as goal

pub returns-in_default : goal.returns-in_default
unfolding answer_of
returns-in_default c = values-none _ _ _ _ (sought-16 _ _ _ _ (no-type _ _ _ _ c.find_type_called-a.ensures c.in_default.is))

pub returns-in_default-b : goal.returns-in_default-b
unfolding answer_of
returns-in_default-b c = values-none _ _ _ _ (sought-17 _ _ _ _ (a-type _ _ _ _ c.find_type_called-a.ensures c.in-Some.is) (no-field _ _ _ _ _ c.find_field_called-b.ensures c.in_default-b.is))

pub field_at-row-requires : goal.field_at-row-requires
field_at-row-requires c = record { ok = c.requires.ok; i_bound = omega (arith, declared _ _ _ _ (a-field _ _ _ _ _ c.find_field_called-b.ensures c.in-Some-b.is), c.requires.ok.flds-count) }

pub returns-then-not-is_asked : goal.returns-then-not-is_asked
unfolding answer_of
returns-then-not-is_asked c = values-none _ _ _ _ (other-kind _ _ _ _ _ (a-type _ _ _ _ c.find_type_called-a.ensures c.in-Some.is) (a-field _ _ _ _ _ c.find_field_called-b.ensures c.in-Some-b.is) c.field_at-row.result c.field_at-row.ensures.result_value (sym c.is_asked.ensures ∙ not-true _ c.if-not-is_asked.true-raw))

pub returns : goal.returns
unfolding answer_of
returns c = counted-here (all_there _ _ _ _ _ (a-type _ _ _ _ c.find_type_called-a.ensures c.in-Some.is) (a-field _ _ _ _ _ c.find_field_called-b.ensures c.in-Some-b.is) c.field_at-row.result c.field_at-row.ensures.result_value (sym c.is_asked.ensures ∙ c.if-not-is_asked.false) c.objects_of-values.ensures.value)
