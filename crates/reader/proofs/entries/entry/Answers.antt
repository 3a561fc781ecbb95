use Rattle.std.proofs.Common.{arith}
use Rattle.reader.specs.KnownHeads.{known-before, known-there}
use Rattle.reader.specs.FieldLaws.{no_fields}
use Rattle.reader.specs.EntryLaws.{known-anew, known-opens, known-got}
use Rattle.reader.proofs.entries.entry.Goals as goal

pub entry_anew-requires : goal.entry_anew-requires
entry_anew-requires c = known-before c.known_head-at.ensures c.if-at-eq0.true c.requires.0 c.requires.1

pub returns-then-at-eq0 : goal.returns-then-at-eq0
returns-then-at-eq0 c = known-anew c.known_head-at.ensures c.if-at-eq0.true _ _ c.entry_anew.ensures

pub ranges-requires : goal.ranges-requires
ranges-requires c = (known-there c.known_head-at.ensures c.if-at-eq0.false).0.0

pub overflow_sub-ranges : goal.overflow_sub-ranges
overflow_sub-ranges c = omega (arith, (known-there c.known_head-at.ensures c.if-at-eq0.false).0.1, c.ranges-2.ensures)

pub range_at-last-requires : goal.range_at-last-requires
range_at-last-requires c = record { ok = (known-there c.known_head-at.ensures c.if-at-eq0.false).0.0; i_bound = omega (arith, (known-there c.known_head-at.ensures c.if-at-eq0.false).0.1, c.ranges-2.ensures) }

pub overflow_add-result : goal.overflow_add-result
overflow_add-result c = omega (arith, (c.adds_nothing.ensures c.if-adds_nothing.true).1.there)

pub returns-then-adds_nothing : goal.returns-then-adds_nothing
returns-then-adds_nothing c = known-got c.known_head-at.ensures c.if-at-eq0.false (rw c.ranges-2.ensures at c.range_at-last.ensures.result_value) _ _ (no_fields (known-opens c.known_head-at.ensures c.if-at-eq0.false (rw c.ranges-2.ensures at c.range_at-last.ensures.result_value)).0 (known-opens c.known_head-at.ensures c.if-at-eq0.false (rw c.ranges-2.ensures at c.range_at-last.ensures.result_value)).1 (c.adds_nothing.ensures c.if-adds_nothing.true).0 (c.adds_nothing.ensures c.if-adds_nothing.true).1 _ _)

pub all_fields-requires : goal.all_fields-requires
all_fields-requires c = let both = known-opens c.known_head-at.ensures c.if-at-eq0.false (rw c.ranges-2.ensures at c.range_at-last.ensures.result_value) in record { holds = both.0; fact = both.1 }

pub returns : goal.returns
returns c = known-got c.known_head-at.ensures c.if-at-eq0.false (rw c.ranges-2.ensures at c.range_at-last.ensures.result_value) _ _ c.all_fields.ensures
