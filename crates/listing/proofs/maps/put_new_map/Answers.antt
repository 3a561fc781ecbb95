use Rattle.listing.specs.Maps.{map-no-types, map-printed}
use Rattle.listing.proofs.maps.put_new_map.Goals as goal

pub returns-in_default : goal.returns-in_default
returns-in_default c = map-no-types c.map_types-a.ensures c.in_default.is

pub returns : goal.returns
returns c = map-printed c.map_types-a.ensures c.in-Ok.is c.put_map-first.ensures c.put_kinds-last.ensures c.put_name.ensures
