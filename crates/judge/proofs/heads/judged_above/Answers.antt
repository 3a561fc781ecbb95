-- `judge::heads::judged_above` meets its contract. Assumes nothing.
use Rattle.std.proofs.Common.{arith}
use borrow.Author.Tests.{not-true, not-false}
use Rattle.judge.specs.Taken.{taken, untaken}
use Rattle.judge.specs.HeadLaws.{dash-new, dash-known, given-known, given-bad, given-good}
use Rattle.judge.proofs.heads.judged_above.Goals as goal

pub returns-then-name : goal.returns-then-name
returns-then-name c = dash-new c.requires.resolved c.in-None.is c.if-name.true

pub returns-then-not-name : goal.returns-then-not-name
returns-then-not-name c = given-known c.requires.resolved c.in-Some.is (not-true _ c.if-not-name.true)

pub returns-in_err-above-in-Some : goal.returns-in_err-above-in-Some
returns-in_err-above-in-Some c = rw c.from_residual.ensures (given-bad c.requires.resolved c.in-Some.is (not-false _ c.if-not-name.false) (omega arith) c.judged_super.ensures (untaken c.in_err-above-in-Some.ensures.value).1)

pub returns-else-name : goal.returns-else-name
returns-else-name c = dash-known c.requires.resolved c.in-None.is c.if-name.false c.super_of-up.ensures

pub returns-in_ok-above-in-Some : goal.returns-in_ok-above-in-Some
returns-in_ok-above-in-Some c = given-good c.requires.resolved c.in-Some.is (not-false _ c.if-not-name.false) (omega arith) c.judged_super.ensures (taken c.in_ok-above-in-Some.ensures.value)
