use Rattle.lay.specs.Laid.{laid_then}
use Rattle.puts.proofs.put_array.Goals as goal

pub returns : goal.returns
returns c = laid_then c.put_two-third.ensures c.put_v64.ensures
