-- `walk::chunks::mapped_values` meets its contract. Assumes nothing.
use Rattle.std.proofs.Common.{sym, ◌∙◌}
use Rattle.lookups.specs.Group.{none-grouped}
use Rattle.walk.specs.Steps.{maps-valued}
use Rattle.walk.proofs.chunks.mapped_values.Goals as goal

pub returns : goal.returns
returns c = maps-valued c.strings.ensures (none-grouped c.args.kinds.now c.args.work.now (sym c.refers.ensures ∙ c.if-refers.false)) c.maps.ensures
