use Rattle.std.proofs.Common.{arith, ◌∙◌, length-set}
use Rattle.words.specs.Stored.{integer-stored}
use Rattle.words.proofs.write.store_integer.Goals as goal

pub store_decimal-requires : goal.store_decimal-requires
store_decimal-requires c = rw length-set (omega (arith, c.reached.ensures.1, c.requires))

pub shape_of-out : goal.shape_of-out
shape_of-out c = c.store_decimal.auto.out ∙ length-set c.args.out.now c.args.at 45

pub returns : goal.returns
returns c = (integer-stored c.reached.ensures.0 c.size_of.ensures c.store_decimal.ensures.0, omega (arith, c.store_decimal.ensures.1, c.reached.ensures.1))
