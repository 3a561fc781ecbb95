use Rattle.reader.specs.KnownHeads.{behind-one}
use Rattle.reader.proofs.known.behind_start.Goals as goal

pub returns : goal.returns
returns c = behind-one _ _ c.if-up-eq0.false
