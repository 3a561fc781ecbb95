-- `reader::fields::all_fields` meets its contract. Assumes nothing.
use Rattle.numbers.specs.Cursors.{handed}
use Rattle.reader.specs.RulesHeld.{count_held}
use Rattle.reader.specs.FieldLaws.{fields-uncounted, fields-unended, news-ready, fields-got}
use Rattle.reader.proofs.fields.all_fields.Goals as goal

pub returns-in_err-n : goal.returns-in_err-n
returns-in_err-n c = rw (handed c.from_residual.ensures.1) (fields-uncounted c.requires.holds _ _ _ _ c.objects_of-objects.ensures.value (c.known_fields-known.ensures _) c.field_count.ensures c.in_err-n.was)

pub returns-in_err-last : goal.returns-in_err-last
returns-in_err-last c = rw (handed c.from_residual-in_err-last.ensures.1) (fields-unended c.requires.holds _ _ _ _ c.objects_of-objects.ensures.value (c.known_fields-known.ensures _) c.field_count.ensures c.in_ok-n.was c.old_fields.ensures c.in_err-last.was)

pub overflow_sub-count : goal.overflow_sub-count
overflow_sub-count c = (count_held c.requires.holds _ c.field_count.ensures c.in_ok-n.was).1

pub new_fields-requires : goal.new_fields-requires
new_fields-requires c = let both = news-ready c.requires.holds _ _ _ _ c.field_count.ensures c.in_ok-n.was c.old_fields.ensures c.in_ok-last.was in record { holds = both.0; fact = both.1.0; count_bound = both.1.1 }

pub returns : goal.returns
returns c = fields-got c.requires.holds _ _ _ _ c.objects_of-objects.ensures.value (c.known_fields-known.ensures _) c.field_count.ensures c.in_ok-n.was c.old_fields.ensures c.in_ok-last.was c.new_fields.ensures
