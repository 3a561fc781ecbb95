-- `judge::fields::fields_text` meets its contract. Assumes nothing.
use Rattle.std.proofs.Common.{arith}
use Rattle.reader.specs.Keeping.{judged-keeps, judged-breaks}
use Rattle.judge.specs.Taken.{taken, untaken}
use Rattle.judge.specs.FieldsAll.{count_held, news-ready, fields-uncounted, fields-unlisted, fields-got}
use Rattle.judge.proofs.fields.fields_text.Goals as goal

pub returns-in_err-ok : goal.returns-in_err-ok
returns-in_err-ok c = rw c.from_residual.ensures (fields-uncounted c.requires.holds _ _ _ _ (c.known_fields-known.ensures _) (judged-breaks _ (omega arith) (c.judged_field_count.ensures _ c.requires.holds) (untaken c.in_err-ok.ensures.value).1))

pub returns-in_err-news : goal.returns-in_err-news
returns-in_err-news c = rw c.from_residual-in_err-news.ensures (fields-unlisted c.requires.holds _ _ _ _ (c.known_fields-known.ensures _) (judged-keeps _ (omega arith) (c.judged_field_count.ensures _ c.requires.holds) (taken c.in_ok-ok.ensures.value)) _ c.old_lines.ensures c.in_err-news.was)

pub overflow_sub-count : goal.overflow_sub-count
overflow_sub-count c = (count_held c.requires.holds _ (judged-keeps _ (omega arith) (c.judged_field_count.ensures _ c.requires.holds) (taken c.in_ok-ok.ensures.value))).1

pub news_text-requires : goal.news_text-requires
news_text-requires c = let both = news-ready c.requires.holds _ _ (judged-keeps _ (omega arith) (c.judged_field_count.ensures _ c.requires.holds) (taken c.in_ok-ok.ensures.value)) c.requires.fact c.known_due.ensures in record { holds = both.0; fact = both.1.0; count_bound = both.1.1 }

pub returns : goal.returns
returns c = fields-got c.requires.holds _ _ _ _ (c.known_fields-known.ensures _) (judged-keeps _ (omega arith) (c.judged_field_count.ensures _ c.requires.holds) (taken c.in_ok-ok.ensures.value)) _ c.old_lines.ensures c.in_ok-news.was c.requires.fact c.known_due.ensures c.objects_of-objects.ensures.value c.news_text.ensures
