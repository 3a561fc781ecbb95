use Rattle.std.proofs.Common.{arith}
use Rattle.values.specs.Quick.{stands-wide}
use Rattle.values.proofs.maps.one_behind.Goals as goal

pub returns-then-width-eq0 : goal.returns-then-width-eq0
returns-then-width-eq0 c = rw c.if-width-eq0.true c.number_behind.ensures

pub returns : goal.returns
returns c = stands-wide c.if-width-eq0.false (omega arith) (omega arith)
