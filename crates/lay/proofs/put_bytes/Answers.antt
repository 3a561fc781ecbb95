use Rattle.std.proofs.Common.{arith}
use Rattle.lay.specs.Laid.{most, laid-over, laid-whole}
use Rattle.lay.proofs.put_bytes.Goals as goal

pub returns-then-out-at : goal.returns-then-out-at
unfolding most
returns-then-out-at c = laid-over (omega arith) c.if-out-at.true c.behind.ensures

pub returns-then-s-out : goal.returns-then-s-out
unfolding most
returns-then-s-out c = laid-whole (omega arith) (omega arith) c.store.ensures
