-- `regions::due_bytes` meets its contract. Assumes nothing.
use Rattle.regions.specs.Turns.{field-declared, due-told}
use Rattle.regions.proofs.due_bytes.Goals as goal

pub chunk_bytes-requires : goal.chunk_bytes-requires
chunk_bytes-requires c = record { holds = (c.requires.holds, c.requires.bounded, c.requires.noted, c.requires.listed); field_bound = field-declared c.requires c.due_at-d.result c.due_at-d.ensures }

pub returns : goal.returns
returns c = due-told c.args.work.now c.args.i c.due_at-d.result c.due_at-d.ensures c.chunk_bytes.ensures
