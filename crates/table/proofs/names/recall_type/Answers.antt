-- `table::names::recall_type` meets its contract. Assumes nothing.
use Rattle.std.proofs.Common.{◌∙◌, arith}
use Rattle.table.specs.NameLaws.{type-below, recalled-none, recalled-nothing, recalled-at}
use Rattle.table.proofs.names.recall_type.Goals as goal

pub returns-then-memo-n : goal.returns-then-memo-n
returns-then-memo-n c = recalled-none c.requires.holds c.memo_at-memo.ensures (omega (arith, c.if-memo-ge33.false)) (c.if-memo-n.true ∙ c.types-n.ensures)

pub returns-in_default : goal.returns-in_default
returns-in_default c = recalled-nothing c.requires.holds c.string_at-name.ensures _ c.find_part.ensures c.in_default.is c.types-n.ensures c.note.ensures

pub overflow_add-t : goal.overflow_add-t
overflow_add-t c = omega (arith, type-below c.requires.holds c.string_at-name.ensures _ c.find_part.ensures c.in-Some.is)

pub note-requires-2 : goal.note-requires-2
note-requires-2 c = record { ok = c.requires.holds.ok; i_bound = (c.requires.i_bound, omega (arith, type-below c.requires.holds c.string_at-name.ensures _ c.find_part.ensures c.in-Some.is)) }

pub overflow_add-result : goal.overflow_add-result
overflow_add-result c = omega (arith, type-below c.requires.holds c.string_at-name.ensures _ c.find_part.ensures c.in-Some.is)

pub returns : goal.returns
returns c = recalled-at c.requires.holds c.string_at-name.ensures _ c.find_part.ensures c.in-Some.is c.note-2.ensures
