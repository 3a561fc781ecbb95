use Rattle.std.proofs.Common.{refl}
use Rattle.show.specs.Maps.{row-types, row-lent, row-shown}
use Rattle.show.proofs.put_maps.Goals as goal

pub map_kinds-types-requires : goal.map_kinds-types-requires
map_kinds-types-requires c = (row-types _ _ c.requires.0, c.requires.1, refl)

pub put_map_lines-requires : goal.put_map_lines-requires
put_map_lines-requires c = row-lent _ _ _ c.map_kinds-types.ensures c.requires.0

pub returns : goal.returns
returns c = row-shown _ _ _ c.map_kinds-types.ensures _ c.put_map_lines.ensures
