-- `walk::chunks::grouped_values` meets its contract: the ranges of each type are those of its objects. Assumes nothing.
use Rattle.walk.specs.Steps.{maps-valued}
use Rattle.walk.proofs.chunks.grouped_values.Goals as goal

pub returns : goal.returns
returns c = maps-valued c.strings.ensures c.group.ensures c.maps.ensures
