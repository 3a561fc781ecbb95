use Rattle.std.proofs.Common.{refl, arith}
use Rattle.numbers.specs.Cursors.{handed, was-got}
use Rattle.values.specs.Turns.{turning-start, turning-next, turning-no, turning-done}
use Rattle.values.specs.Maps.{passed-inside}
use Rattle.values.specs.Quick.{skips-passed, paired-passed, key-steps}
use Rattle.values.specs.Ways.{first_kind, last-kind, rest-asked, rest-falls, way_no, way-keys, way-key-no, way-rest, way-last}
use Rattle.values.proofs.maps.+key_and_rest_map.Goals as goal

pub key_and_rest-bounds-kinds-0 : goal.key_and_rest-bounds-kinds-0
key_and_rest-bounds-kinds-0 t c = omega arith

pub key_and_rest-element_behind-requires : goal.key_and_rest-element_behind-requires
key_and_rest-element_behind-requires t c = (first_kind c.args.kinds.now (omega arith) c.requires.in_bounds.1, c.requires.at_in_bounds)

pub key_and_rest-map-requires : goal.key_and_rest-map-requires
key_and_rest-map-requires t c = (rest-falls c.args.kinds.now c.requires.in_bounds.0 c.decreases, (rest-asked 2 c.args.kinds.now c.if-kinds-gt2.true c.requires.in_bounds.1, ((c.in-Some.ensures c.args.pools.now).inside)))

pub key_and_rest-returns-in-Some : goal.key_and_rest-returns-in-Some
key_and_rest-returns-in-Some t c = way-rest _ _ _ _ _ _ c.requires.in_bounds.0 (skips-passed (c.in-Some.ensures _)) refl c.map.ensures

pub key_and_rest-element-requires : goal.key_and_rest-element-requires
key_and_rest-element-requires t c = (first_kind c.args.kinds.now (omega arith) c.requires.in_bounds.1, c.requires.at_in_bounds)

pub key_and_rest-returns-in_err-next : goal.key_and_rest-returns-in_err-next
key_and_rest-returns-in_err-next t c = rw (handed c.from_residual.ensures.1) (way-key-no _ _ _ _ _ _ c.requires.in_bounds.0 c.element.ensures c.in_err-next.was)

pub key_and_rest-element-requires-then-kinds-eq2 : goal.key_and_rest-element-requires-then-kinds-eq2
key_and_rest-element-requires-then-kinds-eq2 t c = (last-kind c.args.kinds.now c.requires.in_bounds.0 c.requires.in_bounds.1, passed-inside c.element.ensures c.in_ok-next.was c.requires.at_in_bounds)

pub key_and_rest-returns-then-kinds-eq2 : goal.key_and_rest-returns-then-kinds-eq2
key_and_rest-returns-then-kinds-eq2 t c = way-last _ _ _ _ _ _ c.requires.in_bounds.0 c.element.ensures c.in_ok-next.was (omega arith) c.element-then-kinds-eq2.ensures

pub key_and_rest-map-requires-2 : goal.key_and_rest-map-requires-2
key_and_rest-map-requires-2 t c = (rest-falls c.args.kinds.now c.requires.in_bounds.0 c.decreases, (rest-asked 2 c.args.kinds.now (omega arith) c.requires.in_bounds.1, (passed-inside c.element.ensures c.in_ok-next.was c.requires.at_in_bounds)))

pub key_and_rest-returns : goal.key_and_rest-returns
key_and_rest-returns t c = way-rest _ _ _ _ _ _ c.requires.in_bounds.0 c.element.ensures c.in_ok-next.was c.map-2.ensures

pub map-returns-in_err-n : goal.map-returns-in_err-n
map-returns-in_err-n t c = rw (handed c.from_residual.ensures.1) (way_no _ _ _ _ _ _ c.requires.in_bounds.0 c.small.ensures c.in_err-n.was)

pub map-bounds_of-key-requires : goal.map-bounds_of-key-requires
map-bounds_of-key-requires t c = (first_kind c.args.kinds.now (omega arith) c.requires.in_bounds.1)

pub map-bounds_of-value-requires : goal.map-bounds_of-value-requires
map-bounds_of-value-requires t c = (last-kind c.args.kinds.now c.requires.in_bounds.0 c.requires.in_bounds.1)

pub map-pairs_behind-requires : goal.map-pairs_behind-requires
map-pairs_behind-requires t c = (was-got c.small.ensures c.in_ok-n.was).inside c.requires.at_in_bounds

pub map-returns-in-Some : goal.map-returns-in-Some
map-returns-in-Some t c = way-keys _ _ _ _ _ _ c.requires.in_bounds.0 c.small.ensures c.in_ok-n.was (paired-passed c.in-Some.ensures (key-steps _ _ _ _ _ _ (omega arith) (c.bounds_of-key.ensures _) (c.bounds_of-value.ensures _)))

pub map-loop-init : goal.map-loop-init
map-loop-init t c = turning-start _ _ _ _

pub map-key_and_rest-requires : goal.map-key_and_rest-requires
map-key_and_rest-requires t c = (omega arith, ((c.requires.in_bounds.0, c.requires.in_bounds.1), (c.loop.invariant.inside ((was-got c.small.ensures c.in_ok-n.was).inside c.requires.at_in_bounds))))

pub map-returns-in_err-next : goal.map-returns-in_err-next
map-returns-in_err-next t c = rw (handed c.from_residual-in_err-next.ensures.1) (way-keys _ _ _ _ _ _ c.requires.in_bounds.0 c.small.ensures c.in_ok-n.was (turning-no c.loop.invariant c.loop-test.true c.key_and_rest.ensures c.in_err-next.was))

pub map-loop-preserved : goal.map-loop-preserved
map-loop-preserved t c = turning-next c.loop.invariant c.loop-test.true c.key_and_rest.ensures c.in_ok-next.was

pub map-returns : goal.map-returns
map-returns t c = way-keys _ _ _ _ _ _ c.requires.in_bounds.0 c.small.ensures c.in_ok-n.was (turning-done c.loop.invariant 0 c.loop-test.false)
