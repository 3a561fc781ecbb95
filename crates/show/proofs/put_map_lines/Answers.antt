use Rattle.std.proofs.Common.{rules}
use Rattle.show.specs.Maps.{map_in}
use Rattle.show.proofs.put_map_lines.Goals as goal

pub returns : goal.returns
returns c = c.lines_of.ensures (map_in c.args.kinds.now) c.args.part.now (record { each = λ h x o y e. search rules })
