use Rattle.std.proofs.Common.{refl}
use Rattle.numbers.specs.Cursors.{handed}
use Rattle.reader.specs.EntryLaws.{entry-unheaded, entry-opens, entry-got}
use Rattle.reader.proofs.entries.entry_anew.Goals as goal

pub returns-in_err-top : goal.returns-in_err-top
returns-in_err-top c = rw (handed c.from_residual.ensures.1) (entry-unheaded _ _ c.enter_head.ensures c.in_err-top.was)

pub fields-requires : goal.fields-requires
fields-requires c = let both = entry-opens c.enter_head.ensures c.in_ok-top.was in record { holds = both.0; fact = both.1 }

pub returns : goal.returns
returns c = entry-got _ _ c.enter_head.ensures c.in_ok-top.was refl c.fields.ensures
