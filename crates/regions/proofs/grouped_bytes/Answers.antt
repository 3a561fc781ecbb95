-- `regions::grouped_bytes` meets its contract: the ranges of each type are those of its objects. Assumes nothing.
use Rattle.regions.specs.Chunk.{maps-told}
use Rattle.regions.proofs.grouped_bytes.Goals as goal

pub returns : goal.returns
returns c = maps-told c.requires.holds.0 c.strings.ensures c.group.ensures c.requires.holds.2 c.maps_text.ensures
