use Rattle.std.proofs.Common.{refl, arith}
use mir.Facts.{Fits-of_lt}
use Rattle.numbers.proofs.TurnLaws.{lowest-none, lowest-fits, lowest-more, lowest-all}
use Rattle.numbers.proofs.low_first.Goals as goal

pub loop-i-init : goal.loop-i-init
loop-i-init g c = lowest-none _ _ _

pub overflow_add-x : goal.overflow_add-x
overflow_add-x g c = Fits-of_lt (lowest-fits c.loop-i.invariant (omega arith) (omega arith) c.wide-b.result c.wide-b.ensures.1)

pub loop-i-preserved : goal.loop-i-preserved
loop-i-preserved g c = lowest-more c.loop-i.invariant (omega arith) (omega arith) c.wide-b.result c.wide-b.ensures.1 _ refl (omega arith) c.wide-b.ensures.0

pub returns : goal.returns
returns g c = lowest-all c.loop-i.invariant (omega arith)
