use Rattle.parse.specs.KindLaws.{many-none, many-got}
use Rattle.parse.proofs.kinds.many.Goals as goal

pub returns-in_err-e : goal.returns-in_err-e
returns-in_err-e c = rw c.from_residual.ensures (many-none _ _ _ c.requires.0 c.requires.1 c.in_err-e.ensures)

pub returns : goal.returns
returns c = many-got _ _ _ c.requires.0 c.requires.1 c.in_ok-e.ensures
