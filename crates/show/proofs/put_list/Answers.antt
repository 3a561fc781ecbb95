use Rattle.show.specs.Lines.{list-none, list-shows}
use Rattle.show.proofs.put_list.Goals as goal

pub returns-in_default : goal.returns-in_default
returns-in_default c = list-none _ c.small.ensures c.in_default.is

pub returns : goal.returns
returns c = list-shows _ c.small.ensures c.in-Ok.is c.put_value.ensures
