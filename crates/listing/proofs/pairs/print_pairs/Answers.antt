use Rattle.std.proofs.Common.{arith}
use Rattle.lay.specs.Laid.{most}
use Rattle.listing.specs.Pairs.{pairs_start, pairs-done, pairs-too-many, pair-asks, pairs-on}
use Rattle.listing.proofs.pairs.print_pairs.Goals as goal

pub loop-place-init : goal.loop-place-init
unfolding most
loop-place-init c = pairs_start c.requires.0 _ _ (omega arith) (omega arith)

pub shape_of-work-then-left-eq0 : goal.shape_of-work-then-left-eq0
shape_of-work-then-left-eq0 c = c.loop-place.invariant.table

pub shape_of-out-then-left-eq0 : goal.shape_of-out-then-left-eq0
shape_of-out-then-left-eq0 c = c.loop-place.invariant.long

pub returns-then-left-eq0 : goal.returns-then-left-eq0
returns-then-left-eq0 c = pairs-too-many c.loop-place.invariant c.loop-place-test.true c.if-left-eq0.true

pub print_pair-one-requires : goal.print_pair-one-requires
print_pair-one-requires c = pair-asks c.loop-place.invariant c.loop-place-test.true c.requires.0 c.if-left-eq0.false c.requires.1

pub overflow_sub-left : goal.overflow_sub-left
overflow_sub-left c = omega (arith, c.if-left-eq0.false)

pub loop-place-smaller : goal.loop-place-smaller
loop-place-smaller c = omega (arith, c.if-left-eq0.false)

pub loop-place-preserved : goal.loop-place-preserved
loop-place-preserved c = pairs-on c.loop-place.invariant c.loop-place-test.true c.if-left-eq0.false c.print_pair-one.auto.work c.print_pair-one.auto.out c.print_pair-one.ensures

pub shape_of-work : goal.shape_of-work
shape_of-work c = c.loop-place.invariant.table

pub shape_of-out : goal.shape_of-out
shape_of-out c = c.loop-place.invariant.long

pub returns : goal.returns
returns c = pairs-done c.loop-place.invariant c.loop-place-test.false
