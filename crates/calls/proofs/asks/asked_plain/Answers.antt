use Rattle.calls.specs.Kinds.{asked-annotation, asked-plain, asked-type}
use Rattle.calls.proofs.asks.asked_plain.Goals as goal

pub returns-then-e-eq5 : goal.returns-then-e-eq5
returns-then-e-eq5 c = asked-annotation _ c.if-e-eq5.true

pub returns-then-e-lt32 : goal.returns-then-e-lt32
returns-then-e-lt32 c = asked-plain _ c.if-e-eq5.false c.if-e-lt32.true

pub returns : goal.returns
returns c = asked-type _ c.if-e-lt32.false
