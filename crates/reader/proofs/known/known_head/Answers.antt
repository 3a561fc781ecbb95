use Rattle.std.proofs.Common.{refl, arith}
use Rattle.reader.specs.KnownHeads.{known-not, known-placed, known-entered}
use Rattle.reader.proofs.known.known_head.Goals as goal

pub returns-then-t-gt31 : goal.returns-then-t-gt31
returns-then-t-gt31 c = known-not refl

pub overflow_add-at : goal.overflow_add-at
overflow_add-at c = omega (arith, (c.one_byte-n.ensures (c.known_type-t.ensures (omega arith)).byte).there)

pub returns-then-start-gt127 : goal.returns-then-start-gt127
returns-then-start-gt127 c = known-not refl

pub overflow_add-at-2 : goal.overflow_add-at-2
overflow_add-at-2 c = omega (arith, (c.one_byte-n.ensures (c.known_type-t.ensures (omega arith)).byte).there)

pub behind_start-next-requires : goal.behind_start-next-requires
behind_start-next-requires c = omega (arith, (c.one_byte-n.ensures (c.known_type-t.ensures (omega arith)).byte).there)

pub returns-then-count-gt127 : goal.returns-then-count-gt127
returns-then-count-gt127 c = known-not refl

pub enter_known-requires : goal.enter_known-requires
enter_known-requires c = record { holds = c.requires.holds; sound = c.requires.sound; placed = known-placed c.requires.holds (c.one_byte-n.ensures (c.known_type-t.ensures (omega arith)).byte) (c.known_type-t.ensures (omega arith)) c.super_of-up.ensures (c.start_byte-start.ensures (omega arith)) c.behind_start-next.ensures (c.count_byte-count.ensures (omega arith)); fresh_value = refl }

pub overflow_add-result : goal.overflow_add-result
overflow_add-result c = omega (arith, (c.count_byte-count.ensures (omega arith)).there)

pub returns : goal.returns
returns c = known-entered c.requires.holds (c.one_byte-n.ensures (c.known_type-t.ensures (omega arith)).byte) (c.known_type-t.ensures (omega arith)) c.super_of-up.ensures (c.start_byte-start.ensures (omega arith)) c.behind_start-next.ensures (c.count_byte-count.ensures (omega arith)) c.enter_known.ensures
