use Rattle.std.proofs.Common.{arith}
use Rattle.lay.specs.Laid.{most, laid_in, laid-over}
use Rattle.lay.proofs.put.Goals as goal

pub returns-then-at-out : goal.returns-then-at-out
unfolding most
returns-then-at-out c = laid_in _ _ _ (omega arith) (omega arith)

pub returns : goal.returns
unfolding most
returns c = laid-over (omega arith) c.if-at-out.false c.behind.ensures
