use Rattle.reader.specs.KnownHeads.{start_none, start-there}
use Rattle.reader.proofs.known.start_byte.Goals as goal

pub returns-then-up-eq0 : goal.returns-then-up-eq0
returns-then-up-eq0 c = λ lt. start_none _ _ _ c.if-up-eq0.true

pub returns : goal.returns
returns c = λ lt. start-there _ _ _ _ c.if-up-eq0.false lt (c.one_byte.ensures lt)
