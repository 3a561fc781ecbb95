use Rattle.show.specs.Lines.{line-shows}
use Rattle.show.proofs.put_value.Goals as goal

pub returns : goal.returns
returns c = line-shows c.put_bytes-first.ensures c.put_elements-all.ensures c.put-end.ensures
