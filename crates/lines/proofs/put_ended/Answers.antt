use Rattle.lay.specs.Laid.{laid_then}
use Rattle.lines.proofs.put_ended.Goals as goal

pub returns : goal.returns
returns c = laid_then c.put_decimal-behind.ensures c.put.ensures
