-- `reader::heads::enter_top` meets its contract. Assumes nothing.
use Rattle.reader.specs.EnterLaws.{declares, note-fits, type-noted, range-fits, entered}
use Rattle.reader.proofs.heads.enter_top.Goals as goal

pub enter_type-requires : goal.enter_type-requires
enter_type-requires c = record { holds = c.requires.holds; declares = declares c.requires.holds c.requires.placed }

pub note-requires : goal.note-requires
note-requires c = let both = note-fits c.requires.holds c.requires.placed c.requires.sound c.enter_type.ensures in record { ok = both.0; i_bound = both.1 }

pub push_range-requires : goal.push_range-requires
push_range-requires c = let typed = type-noted c.requires.holds c.requires.placed c.requires.sound c.enter_type.ensures c.note.ensures in let both = range-fits c.requires.holds c.requires.placed c.requires.sound c.base_for-base.ensures c.range_for-range.ensures typed in record { ok = both.0; work_bound = both.1.0; small = both.1.1 }

pub returns : goal.returns
returns c = let typed = type-noted c.requires.holds c.requires.placed c.requires.sound c.enter_type.ensures c.note.ensures in entered c.requires.holds c.requires.placed c.requires.sound c.base_for-base.ensures c.range_for-range.ensures typed c.push_range.ensures
