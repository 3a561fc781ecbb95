use Rattle.std.proofs.Common.{◌+◌, ◌*◌, ◌-◌, length}
use Rattle.paper.specs.Listing.{element_word}
use Rattle.laws.specs.Lines.{tabs}
use Rattle.show.specs.Shown.{Showing}
use Rattle.show.specs.Maps.{key_in}
use Rattle.show.proofs.+put_key_and_rest_put_map.Given as goal

-- A map calls `put_key_and_rest` at the same kinds, and that calls `put_map` at one less: so the measures are twice the number of types
-- left, and one more for a map.
abbrev pub decreases-put_key_and_rest : goal.decreases-put_key_and_rest
decreases-put_key_and_rest l = 2 * length l.kinds.now

abbrev pub decreases-put_map : goal.decreases-put_map
decreases-put_map l = 2 * length l.kinds.now + 1

abbrev pub invariant-put_map-loop : goal.invariant-put_map-loop
invariant-put_map-loop l = Showing (key_in l.kinds) (tabs element_word) l.part l.n l.initial.here.next.at l.initial.out l.first (l.n - l.counter) l.out l.here
