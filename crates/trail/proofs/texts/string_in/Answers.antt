use Rattle.trail.specs.Texts.{in-first, in-later}
use Rattle.trail.proofs.texts.string_in.Goals as goal

pub returns-then-k-eq0 : goal.returns-then-k-eq0
returns-then-k-eq0 c = in-first c.four-to.ensures c.if-k-eq0.true c.part.ensures

pub returns : goal.returns
returns c = in-later c.four-to.ensures c.if-k-eq0.false c.four-start.ensures c.part-2.ensures
