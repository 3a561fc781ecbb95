use Rattle.std.proofs.Common.{arith, refl}
use Rattle.words.specs.Blocks.{value_of}
use Rattle.words.proofs.read.value_of.Goals as goal

pub returns : goal.returns
unfolding value_of
returns c = (refl, omega arith)
