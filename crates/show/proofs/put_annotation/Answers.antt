use Rattle.show.specs.Lines.{annotation-shows}
use Rattle.show.proofs.put_annotation.Goals as goal

pub returns : goal.returns
returns c = annotation-shows c.put_number-name.ensures c.put_number.ensures
