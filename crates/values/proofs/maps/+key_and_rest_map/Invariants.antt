use Rattle.std.proofs.Common.{◌+◌, ◌*◌, length}
use Rattle.values.specs.Turns.{Turning}
use Rattle.values.specs.Ways.{key_in}
use Rattle.values.proofs.maps.+key_and_rest_map.Given as goal

-- A map calls `key_and_rest` at the same kinds, and that calls `map` at one less: so the measures are twice the number of types left,
-- and one more for a map.
abbrev pub decreases-key_and_rest : goal.decreases-key_and_rest
decreases-key_and_rest l = 2 * length l.kinds.now

abbrev pub decreases-map : goal.decreases-map
decreases-map l = 2 * length l.kinds.now + 1

abbrev pub invariant-map-loop : goal.invariant-map-loop
invariant-map-loop l = Turning (key_in l.strings l.pools l.groups.starts.now l.groups.first.now l.groups.last.now l.kinds) l.part l.n l.initial.here.at l.counter l.here.at
