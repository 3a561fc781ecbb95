use Rattle.lay.specs.Laid.{laid_then}
use Rattle.lines.proofs.put_name.Goals as goal

pub returns : goal.returns
returns c = laid_then c.put-last.ensures c.put_ended.ensures
