use Rattle.std.proofs.Common.{arith}
use Rattle.trail.specs.Entries.{enter-not, enter-known, enter-new}
use Rattle.trail.proofs.trail.enter.Goals as goal

pub returns-then-own-gt128 : goal.returns-then-own-gt128
returns-then-own-gt128 c = enter-not (λ a b d e g. omega arith)

pub returns-then-t-top : goal.returns-then-t-top
returns-then-t-top c = enter-new c.requires.head.within c.if-t-top.true

pub returns-else-t-top : goal.returns-else-t-top
returns-else-t-top c = enter-known (omega arith)
