-- `reader::heads::base_for` meets its contract. Assumes nothing.
use Rattle.std.proofs.Common.{◌∙◌}
use Rattle.reader.specs.EnterLaws.{base-none, base-some}
use Rattle.reader.proofs.heads.base_for.Goals as goal

pub returns-then-up-eq0 : goal.returns-then-up-eq0
returns-then-up-eq0 c = base-none _ _ _ c.if-up-eq0.true

pub returns : goal.returns
returns c = c.base_of.ensures ∙ base-some _ _ _ c.if-up-eq0.false
