use Rattle.values.specs.Turns.{Turning}
use Rattle.values.specs.Ways.{map_in}
use Rattle.values.proofs.maps.maps.Given as goal

abbrev pub invariant-loop : goal.invariant-loop
invariant-loop l = Turning (map_in l.strings l.pools l.groups.starts.now l.groups.first.now l.groups.last.now l.kinds) l.part l.n 0 l.counter l.here.at
