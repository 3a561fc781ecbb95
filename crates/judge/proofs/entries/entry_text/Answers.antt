-- `judge::entries::entry_text` meets its contract. Assumes nothing.
use Rattle.std.proofs.Common.{refl}
use Rattle.judge.specs.EntriesLaws.{entry-unheaded, entry-opens, entry-got}
use Rattle.judge.proofs.entries.entry_text.Goals as goal

pub returns-in_err-top : goal.returns-in_err-top
returns-in_err-top c = rw c.from_residual.ensures (entry-unheaded c.head_text.ensures c.in_err-top.was)

pub fields_text-requires : goal.fields_text-requires
fields_text-requires c = let both = entry-opens c.head_text.ensures c.in_ok-top.was in record { holds = both.0; fact = both.1 }

pub returns : goal.returns
returns c = entry-got c.head_text.ensures c.in_ok-top.was refl c.fields_text.ensures
