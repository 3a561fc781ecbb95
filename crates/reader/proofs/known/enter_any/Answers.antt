use Rattle.reader.specs.KnownHeads.{known-before, known-again, known-there, known-topped}
use Rattle.reader.proofs.known.enter_any.Goals as goal

pub enter_head-requires : goal.enter_head-requires
enter_head-requires c = let both = known-before c.known_head-at.ensures c.if-at-eq0.true c.requires.holds c.requires.sound in record { holds = both.0; sound = both.1 }

pub returns-then-at-eq0 : goal.returns-then-at-eq0
returns-then-at-eq0 c = known-again c.known_head-at.ensures c.if-at-eq0.true c.enter_head.ensures

pub last_top-top-requires : goal.last_top-top-requires
last_top-top-requires c = let both = known-there c.known_head-at.ensures c.if-at-eq0.false in record { ok = both.0; at_in_bounds = both.1 }

pub returns : goal.returns
returns c = known-topped c.known_head-at.ensures c.if-at-eq0.false c.last_top-top.ensures
