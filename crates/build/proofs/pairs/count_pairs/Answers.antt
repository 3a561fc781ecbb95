use Rattle.std.proofs.Common.{arith, refl, sym, ◌∙◌}
use Rattle.build.specs.Counting.{counting-start, counting-many, counting-asks, counting-bad, counting-next, counting-done}
use Rattle.build.proofs.pairs.count_pairs.Goals as goal

pub loop-from-init : goal.loop-from-init
loop-from-init c = counting-start c.requires.text_ready c.requires.places_len

pub shape_of-work-then-left-eq0 : goal.shape_of-work-then-left-eq0
shape_of-work-then-left-eq0 c = c.loop-from.invariant.going.long

pub shape_of-places-then-left-eq0 : goal.shape_of-places-then-left-eq0
shape_of-places-then-left-eq0 c = c.loop-from.invariant.many ∙ sym c.requires.places_len

pub returns-then-left-eq0 : goal.returns-then-left-eq0
returns-then-left-eq0 c = counting-many c.loop-from.invariant c.loop-from-test.true c.if-left-eq0.true

pub count_pair-requires : goal.count_pair-requires
count_pair-requires c = counting-asks c.loop-from.invariant c.loop-from-test.true c.if-left-eq0.false c.requires.text_ready.bytes

pub shape_of-work-in_err-k : goal.shape_of-work-in_err-k
shape_of-work-in_err-k c = c.count_pair.auto.work ∙ c.loop-from.invariant.going.long

pub shape_of-places-in_err-k : goal.shape_of-places-in_err-k
shape_of-places-in_err-k c = c.loop-from.invariant.many ∙ sym c.requires.places_len

pub returns-in_err-k : goal.returns-in_err-k
returns-in_err-k c = rw c.from_residual.ensures (counting-bad c.loop-from.invariant c.loop-from-test.true c.if-left-eq0.false c.count_pair.ensures c.in_err-k.was)

pub overflow_sub-left : goal.overflow_sub-left
overflow_sub-left c = omega (arith, c.if-left-eq0.false)

pub offset_bounds-places-left : goal.offset_bounds-places-left
offset_bounds-places-left c = omega (arith, c.loop-from.invariant.going.block)

pub bounds-places-left : goal.bounds-places-left
bounds-places-left c = omega (arith, c.loop-from.invariant.many, c.loop-from.invariant.going.block, c.if-left-eq0.false)

pub loop-from-smaller : goal.loop-from-smaller
loop-from-smaller c = omega (arith, c.if-left-eq0.false)

pub loop-from-preserved : goal.loop-from-preserved
loop-from-preserved c = counting-next c.loop-from.invariant c.loop-from-test.true c.if-left-eq0.false c.count_pair.ensures c.in_ok-k.was c.count_pair.auto.work

pub shape_of-work : goal.shape_of-work
shape_of-work c = c.loop-from.invariant.going.long

pub shape_of-places : goal.shape_of-places
shape_of-places c = c.loop-from.invariant.many ∙ sym c.requires.places_len

pub returns : goal.returns
returns c = counting-done c.loop-from.invariant c.loop-from-test.false _ refl
