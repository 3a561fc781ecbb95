use Rattle.std.proofs.Common.{arith}
use Rattle.texts.specs.Quiet.{words-two, words-one}
use Rattle.texts.proofs.elements_in.Goals as goal

pub returns-then-e-eq5 : goal.returns-then-e-eq5
returns-then-e-eq5 c = rw (words-two _ c.if-e-eq5.true) (omega arith)

pub returns : goal.returns
returns c = rw (words-one _ c.if-e-eq5.false) (omega arith)
