use Rattle.std.proofs.Common.{◌+◌, ◌-◌, ◌*◌, length}
use Rattle.texts.specs.Told.{Taking}
use Rattle.texts.specs.Maps.{put_key}
use Rattle.texts.specs.MapWays.{key_in}
use Rattle.texts.proofs.maps.+key_and_rest_text_map_text.Given as goal

-- A map calls `key_and_rest_text` at the same kinds, and that calls `map_text` at one less: so the measures are twice the number of types
-- left, and one more for a map.
abbrev pub decreases-key_and_rest_text : goal.decreases-key_and_rest_text
decreases-key_and_rest_text l = 2 * length l.kinds.now

abbrev pub decreases-map_text : goal.decreases-map_text
decreases-map_text l = 2 * length l.kinds.now + 1

abbrev pub invariant-map_text-loop : goal.invariant-map_text-loop
invariant-map_text-loop l = Taking (key_in l.strings l.pools l.groups.starts.now l.groups.first.now l.groups.last.now l.kinds) (put_key l.kinds) l.t l.n l.initial.here.next.at l.initial.out l.behind (l.n - l.counter) l.out l.here
