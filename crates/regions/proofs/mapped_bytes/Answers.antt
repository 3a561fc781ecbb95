-- `regions::mapped_bytes` meets its contract. Assumes nothing.
use Rattle.std.proofs.Common.{sym, ◌∙◌}
use Rattle.lookups.specs.Group.{none-grouped}
use Rattle.regions.specs.Chunk.{maps-told}
use Rattle.regions.proofs.mapped_bytes.Goals as goal

pub returns : goal.returns
returns c = maps-told c.requires.holds.0 c.strings.ensures (none-grouped c.args.kinds.now c.args.work.now (sym c.refers.ensures ∙ c.if-refers.false)) c.requires.holds.2 c.maps_text.ensures
