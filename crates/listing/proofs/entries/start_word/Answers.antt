use Rattle.listing.specs.Entries.{start_none, start-some}
use Rattle.listing.proofs.entries.start_word.Goals as goal

pub returns-then-above-eq0 : goal.returns-then-above-eq0
returns-then-above-eq0 c = start_none _ _ c.if-above-eq0.true

pub returns : goal.returns
returns c = start-some _ _ c.if-above-eq0.false
