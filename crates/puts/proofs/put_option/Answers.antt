use Rattle.std.proofs.Common.{arith}
use Rattle.lay.specs.Laid.{most, laid_none}
use Rattle.laws.specs.Put.{put_option}
use Rattle.puts.proofs.put_option.Goals as goal

pub returns-in-None : goal.returns-in-None
unfolding most put_option
returns-in-None c = rw c.in-None.is (laid_none (omega arith) (omega arith))

pub returns-in-Some : goal.returns-in-Some
unfolding put_option
returns-in-Some c = rw c.in-Some.is c.put_v64.ensures
