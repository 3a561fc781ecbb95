use Rattle.std.proofs.Common.{arith}
use Rattle.lay.specs.Laid.{most}
use Rattle.build.specs.Again.{going_start, going_done, some_left, going-asks, going_next}
use Rattle.build.proofs.again.pairs_again.Goals as goal

pub loop-from-init : goal.loop-from-init
unfolding most
loop-from-init c = going_start c.requires.text_ready c.requires.file_given _ (omega arith)

pub overflow_sub-left : goal.overflow_sub-left
overflow_sub-left c = omega (arith, some_left c.loop-from.invariant c.loop-from-test.true)

pub offset_bounds-places-left : goal.offset_bounds-places-left
offset_bounds-places-left c = omega (arith, c.loop-from.invariant.going.block)

pub bounds-places-left : goal.bounds-places-left
bounds-places-left c = omega (arith, c.requires.file_given.many, c.loop-from.invariant.going.block, some_left c.loop-from.invariant c.loop-from-test.true)

pub pair_again-k-requires : goal.pair_again-k-requires
pair_again-k-requires c = going-asks c.loop-from.invariant c.loop-from-test.true c.requires.text_ready.bytes

pub loop-from-smaller : goal.loop-from-smaller
loop-from-smaller c = omega (arith, some_left c.loop-from.invariant c.loop-from-test.true)

pub loop-from-preserved : goal.loop-from-preserved
loop-from-preserved c = going_next c.loop-from.invariant c.loop-from-test.true c.requires.text_ready.bytes c.pair_again-k.ensures c.pair_again-k.auto.work c.pair_again-k.auto.out

pub shape_of-work : goal.shape_of-work
shape_of-work c = c.loop-from.invariant.going.long

pub shape_of-out : goal.shape_of-out
shape_of-out c = c.loop-from.invariant.going.room

pub returns : goal.returns
returns c = going_done c.loop-from.invariant c.loop-from-test.false
