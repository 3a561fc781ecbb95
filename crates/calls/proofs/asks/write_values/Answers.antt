use Rattle.std.proofs.Common.{sym, ◌∙◌, arith}
use borrow.Author.Tests.{not-true}
use Rattle.walk.specs.FileLaws.{all-bytes}
use Rattle.calls.specs.Told.{sought-16, sought-17}
use Rattle.calls.specs.Sought.{no-type, a-type, no-field, a-field, declared, other-kind, all_there}
use Rattle.calls.specs.Column.{still-holds, wanted-ready, told_none, told-wanted}
use Rattle.calls.proofs.asks.write_values.Goals as goal

pub find_type_called-a-requires : goal.find_type_called-a-requires
find_type_called-a-requires c = still-holds c.requires

pub returns-in_default : goal.returns-in_default
returns-in_default c = told_none (sought-16 _ _ _ _ (no-type _ _ _ _ c.find_type_called-a.ensures c.in_default.is))

pub find_field_called-b-requires : goal.find_field_called-b-requires
find_field_called-b-requires c = still-holds c.requires

pub returns-in_default-b : goal.returns-in_default-b
returns-in_default-b c = told_none (sought-17 _ _ _ _ (a-type _ _ _ _ c.find_type_called-a.ensures c.in-Some.is) (no-field _ _ _ _ _ c.find_field_called-b.ensures c.in_default-b.is))

pub field_at-row-requires : goal.field_at-row-requires
field_at-row-requires c = record { ok = (still-holds c.requires).ok; i_bound = omega (arith, declared _ _ _ _ (a-field _ _ _ _ _ c.find_field_called-b.ensures c.in-Some-b.is), (still-holds c.requires).ok.flds-count) }

pub returns-then-not-is_asked : goal.returns-then-not-is_asked
returns-then-not-is_asked c = told_none (other-kind _ _ _ _ _ (a-type _ _ _ _ c.find_type_called-a.ensures c.in-Some.is) (a-field _ _ _ _ _ c.find_field_called-b.ensures c.in-Some-b.is) c.field_at-row.result c.field_at-row.ensures.result_value (sym c.is_asked.ensures ∙ not-true _ c.if-not-is_asked.true-raw))

pub objects_of-objects-requires : goal.objects_of-objects-requires
objects_of-objects-requires c = (still-holds c.requires).ok

pub store_in_room-requires : goal.store_in_room-requires
store_in_room-requires c = wanted-ready c.requires (all_there _ _ _ _ _ (a-type _ _ _ _ c.find_type_called-a.ensures c.in-Some.is) (a-field _ _ _ _ _ c.find_field_called-b.ensures c.in-Some-b.is) c.field_at-row.result c.field_at-row.ensures.result_value (sym c.is_asked.ensures ∙ c.if-not-is_asked.false) c.objects_of-objects.ensures.value) (all-bytes c.args.file.now (λ i. omega (arith, c.shared_slice_known-1.given i)))

pub returns : goal.returns
returns c = told-wanted (all-bytes c.args.file.now (λ i. omega (arith, c.shared_slice_known-1.given i))) (all_there _ _ _ _ _ (a-type _ _ _ _ c.find_type_called-a.ensures c.in-Some.is) (a-field _ _ _ _ _ c.find_field_called-b.ensures c.in-Some-b.is) c.field_at-row.result c.field_at-row.ensures.result_value (sym c.is_asked.ensures ∙ c.if-not-is_asked.false) c.objects_of-objects.ensures.value) c.store_in_room.ensures
