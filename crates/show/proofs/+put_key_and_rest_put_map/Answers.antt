use Rattle.std.proofs.Common.{refl, arith, ◌≡◌, ◌+◌, ◌-◌}
use Rattle.lay.specs.Laid.{most}
use Rattle.show.specs.Shown.{showing-start, showing-next, shows-all}
use Rattle.show.specs.Maps.{first-listed, second-listed, more-types, rest-keyed, rest-falls, map-element, map-none, map-shows, key-shows, key-last}
use Rattle.show.proofs.+put_key_and_rest_put_map.Goals as goal

pub put_key_and_rest-put_next-key-requires : goal.put_key_and_rest-put_next-key-requires
put_key_and_rest-put_next-key-requires t c = first-listed c.requires (omega arith)

pub put_key_and_rest-put_next-requires : goal.put_key_and_rest-put_next-requires
put_key_and_rest-put_next-requires t c = second-listed c.requires

pub put_key_and_rest-returns-then-kinds-eq2 : goal.put_key_and_rest-returns-then-kinds-eq2
put_key_and_rest-returns-then-kinds-eq2 t c = key-last _ c.if-kinds-eq2.true c.put_next-key.ensures c.put_next.ensures

pub put_key_and_rest-put_map-requires : goal.put_key_and_rest-put_map-requires
put_key_and_rest-put_map-requires t c = (rest-falls c.requires c.decreases, rest-keyed c.requires)

pub put_key_and_rest-returns : goal.put_key_and_rest-returns
put_key_and_rest-returns t c = key-shows _ c.put_next-key.ensures c.put_map.ensures

pub put_map-put_next-requires : goal.put_map-put_next-requires
put_map-put_next-requires t c = first-listed c.requires (omega arith)

pub put_map-returns-then-kinds-eq1 : goal.put_map-returns-then-kinds-eq1
put_map-returns-then-kinds-eq1 t c = map-element _ c.if-kinds-eq1.true c.put_next.ensures

pub put_map-returns-in_default : goal.put_map-returns-in_default
put_map-returns-in_default t c = map-none _ (more-types c.requires c.if-kinds-eq1.false) c.small.ensures c.in_default.is

pub put_map-loop-init : goal.put_map-loop-init
unfolding most
put_map-loop-init t c = let all : c.in-Ok.n - 0 ≡ c.in-Ok.n = omega arith in rw all (showing-start _ _ _ _ _ _ _ (omega arith) (omega arith) refl)

pub put_map-loop-preserved : goal.put_map-loop-preserved
put_map-loop-preserved t c =
    let less : c.in-Ok.n - (c.loop.counter + 1) ≡ c.in-Ok.n - c.loop.counter - 1 = omega arith in
    rw less (showing-next c.loop.invariant (omega arith) c.put_key_and_rest-here.auto.out c.put_key_and_rest-here.ensures)

pub put_map-returns : goal.put_map-returns
put_map-returns t c = map-shows _ (more-types c.requires c.if-kinds-eq1.false) c.small.ensures c.in-Ok.is c.put-word.ensures c.put_decimal-first.ensures (shows-all c.loop.invariant (omega arith))
