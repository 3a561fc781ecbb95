use Rattle.lay.specs.Laid.{laid_then}
use Rattle.lines.proofs.put_map_kind.Goals as goal

pub returns : goal.returns
returns c = laid_then c.put-word.ensures c.put_decimal.ensures
