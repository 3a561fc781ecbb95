-- `reader::heads::enter_type` meets its contract. Assumes nothing.
use borrow.Author.Tests.{not-true, not-false}
use Rattle.reader.specs.EnterLaws.{type-known, type-new}
use Rattle.reader.proofs.heads.enter_type.Goals as goal

pub returns-then-not-name : goal.returns-then-not-name
returns-then-not-name c = type-known c.requires.holds _ _ (not-true _ c.if-not-name.true)

pub push_type-requires : goal.push_type-requires
push_type-requires c = record { ok = c.requires.holds.ok; work_bound = c.requires.declares.room (not-false _ c.if-not-name.false) }

pub returns : goal.returns
returns c = type-new c.requires.holds _ _ c.requires.declares (not-false _ c.if-not-name.false) c.string_at-s.ensures c.string_sum-sum.ensures c.push_type.ensures
