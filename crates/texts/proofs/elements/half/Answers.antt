use Rattle.std.proofs.Common.{refl, arith}
use Rattle.paper.specs.Reader.{when◌then◌else◌}
use Rattle.texts.specs.Elements.{whole_width, width-last}
use Rattle.texts.proofs.elements.half.Goals as goal

pub returns-in-7 : goal.returns-in-7
unfolding whole_width when◌then◌else◌
returns-in-7 c = rw c.in-7.is (refl, omega arith)

pub returns-in-8 : goal.returns-in-8
unfolding whole_width when◌then◌else◌
returns-in-8 c = rw c.in-8.is (refl, omega arith)

pub returns-in-9 : goal.returns-in-9
unfolding whole_width when◌then◌else◌
returns-in-9 c = rw c.in-9.is (refl, omega arith)

pub returns-in_default : goal.returns-in_default
returns-in_default c = rw (width-last c.args.e (omega arith) (omega arith)) (refl, omega arith)
