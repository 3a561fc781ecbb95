use Rattle.std.proofs.Common.{arith, eqb-true}
use mathlib.Core.Bool.{false≢true}
use Rattle.reader.proofs.known.adds_nothing.Goals as goal

pub returns-then-added-ne0 : goal.returns-then-added-ne0
returns-then-added-ne0 c = λ e. absurd (false≢true e)

pub returns : goal.returns
returns c = λ e. let none = eqb-true c.one_byte.result 0 e in (c.if-added-ne0.false, rw none at (c.one_byte.ensures (omega (arith, none))))
