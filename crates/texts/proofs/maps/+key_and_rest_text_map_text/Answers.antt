use Rattle.std.proofs.Common.{◌-◌, ◌+◌, refl, arith}
use Rattle.std.proofs.Math.Nat.{sub-zero}
use Rattle.values.specs.Ways.{first_kind, rest-asked, rest-falls}
use Rattle.texts.specs.Told.{refuses, taking-behind, taking-next, taking-bad, taking-done}
use Rattle.texts.specs.MapWays.{way-word, way-no-size, way-keys, way-no-key, way-rest}
use Rattle.texts.proofs.maps.+key_and_rest_text_map_text.Goals as goal

pub key_and_rest_text-word_text-requires : goal.key_and_rest_text-word_text-requires
key_and_rest_text-word_text-requires t c = first_kind c.args.kinds.now (omega (arith, c.requires.0)) c.requires.1

pub key_and_rest_text-returns-in_err-k : goal.key_and_rest_text-returns-in_err-k
key_and_rest_text-returns-in_err-k t c = rw c.from_residual.ensures (refuses (way-no-key _ _ _ _ _ _ c.requires.0 c.word_text.ensures c.in_err-k.was))

pub key_and_rest_text-map_text-requires : goal.key_and_rest_text-map_text-requires
key_and_rest_text-map_text-requires t c = (rest-falls c.args.kinds.now c.requires.0 c.decreases, ((rest-asked 1 c.args.kinds.now c.requires.0 c.requires.1).0, (rest-asked 1 c.args.kinds.now c.requires.0 c.requires.1).1))

pub key_and_rest_text-returns : goal.key_and_rest_text-returns
key_and_rest_text-returns t c = way-rest _ _ _ _ _ _ c.requires.0 c.word_text.ensures c.in_ok-k.was c.map_text.ensures

pub map_text-word_text-requires : goal.map_text-word_text-requires
map_text-word_text-requires t c = first_kind c.args.kinds.now c.requires.0 c.requires.1

pub map_text-returns-then-kinds-eq1 : goal.map_text-returns-then-kinds-eq1
map_text-returns-then-kinds-eq1 t c = way-word _ _ _ _ _ c.args.kinds.now (omega arith) c.word_text.ensures

pub map_text-returns-in_err-n : goal.map_text-returns-in_err-n
map_text-returns-in_err-n t c = rw c.from_residual.ensures (refuses (way-no-size _ _ _ _ _ _ _ _ c.requires.0 (λ q. omega arith) (rw c.in_err-n.was at c.size_text.ensures)))

pub map_text-loop-init : goal.map_text-loop-init
map_text-loop-init t c = rw sub-zero (taking-behind _ _ _ _ _ c.put_v64-behind.ensures refl)

pub map_text-returns-in_err-here : goal.map_text-returns-in_err-here
map_text-returns-in_err-here t c = rw c.from_residual-in_err-here.ensures (way-keys _ _ _ _ _ _ c.requires.0 (λ q. omega arith) (rw c.in_ok-n.was at c.size_text.ensures) c.put_v64-behind.ensures (taking-bad c.loop.invariant {less = c.in_ok-n.n - (c.loop.counter + 1)} (omega arith) c.key_and_rest_text.ensures c.in_err-here.was))

pub map_text-loop-preserved : goal.map_text-loop-preserved
map_text-loop-preserved t c = taking-next c.loop.invariant (omega arith) c.key_and_rest_text.ensures c.in_ok-here.was c.key_and_rest_text.auto.out

pub map_text-returns : goal.map_text-returns
map_text-returns t c = way-keys _ _ _ _ _ _ c.requires.0 (λ q. omega arith) (rw c.in_ok-n.was at c.size_text.ensures) c.put_v64-behind.ensures (taking-done c.loop.invariant (omega arith))
