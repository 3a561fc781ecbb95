use Rattle.fronts.specs.Maps.{map-unread, map-laid}
use Rattle.fronts.proofs.maps.put_map.Goals as goal

pub returns-in_default : goal.returns-in_default
returns-in_default c = map-unread c.in_default.ensures

pub returns : goal.returns
returns c = map-laid c.in-Some.ensures c.put_two-types.ensures c.put_v64-first.ensures c.put_kinds-last.ensures c.put_two.ensures
