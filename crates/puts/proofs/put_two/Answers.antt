use Rattle.lay.specs.Laid.{laid_then}
use Rattle.puts.proofs.put_two.Goals as goal

pub returns : goal.returns
returns c = laid_then c.put_v64-second.ensures c.put_v64.ensures
