use Rattle.std.proofs.Common.{arith, eqb-true}
use Rattle.words.specs.Pairs.{unpaired-none, unpaired-on, unpaired-other, unpaired-all, values-small, two}
use Rattle.words.proofs.read.unhex_pairs.Goals as goal
use Rattle.words.proofs.read.unhex_pairs.Goals.{then-pair-written, else-pair-written}

pub loop-i-init : goal.loop-i-init
loop-i-init c = unpaired-none _ _ c.requires.1

pub written-requires : goal.written-requires
written-requires c = values-small _ c.values_of-values.ensures

pub overflow_add-bytes : goal.overflow_add-bytes
overflow_add-bytes c = omega (arith, (values-small _ c.values_of-values.ensures).1)

pub overflow_cast-bytes : goal.overflow_cast-bytes
overflow_cast-bytes c = omega (arith, (values-small _ c.values_of-values.ensures).1)

pub loop-i-preserved : goal.loop-i-preserved
loop-i-preserved c = elim c.if-pair-written.branch [
  | then-pair-written w ↦ rw w.others-is (unpaired-other c.loop-i.invariant (omega arith) _)
  | else-pair-written w ↦ rw w.others-is (unpaired-on c.loop-i.invariant (omega arith) (two _ c.values_of-values.ensures c.written.ensures w.if-pair-written.false))
]

pub returns : goal.returns
returns c t = unpaired-all c.loop-i.invariant (omega arith) (eqb-true _ 0 t)
