-- `regions::linked_bytes` meets its contract: the ranges that were gathered are those of the type. Assumes nothing.
use Rattle.lookups.specs.Known.{linked-known}
use Rattle.regions.proofs.linked_bytes.Goals as goal

pub ranged_bytes-requires : goal.ranged_bytes-requires
ranged_bytes-requires c = (c.requires.kinds.0, c.requires.kinds.1)

pub returns : goal.returns
returns c = c.ranged_bytes.ensures.told _ (λ pools. linked-known c.requires.holds.0 c.strings.ensures c.requires.kinds.2 c.gather-k.ensures)
