use Rattle.std.proofs.Common.{arith}
use Rattle.paper.specs.Reader.{when◌then◌else◌}
use Rattle.paper.specs.Lists.{given?}
use Rattle.lay.specs.Laid.{most, laid_none}
use Rattle.puts.proofs.put_restrictions.Goals as goal

pub returns-in-None : goal.returns-in-None
unfolding most given? when◌then◌else◌
returns-in-None c = rw c.in-None.is (laid_none (omega arith) (omega arith))

pub returns-in-Some : goal.returns-in-Some
unfolding given? when◌then◌else◌
returns-in-Some c = rw c.in-Some.is c.put_v64.ensures
