use Rattle.std.proofs.Common.{arith}
use Rattle.calls.specs.Kinds.{asked-constant, asked-array, asked-none, asked-as-plain}
use Rattle.calls.proofs.asks.asked_with.Goals as goal

pub returns-in-15 : goal.returns-in-15
returns-in-15 c = asked-array _ _ c.in-15.is

pub returns-in-0-to-4 : goal.returns-in-0-to-4
returns-in-0-to-4 c = asked-constant _ _ (omega arith)

pub returns-in-5-to-14 : goal.returns-in-5-to-14
returns-in-5-to-14 c = asked-as-plain _ _ (omega arith) (λ q. omega arith) (λ q. omega arith) c.asked_plain-plain.ensures

pub returns-in-17-to-20 : goal.returns-in-17-to-20
returns-in-17-to-20 c = asked-none _ _ (omega arith) (omega arith)

pub returns-in-32-to-4294967295 : goal.returns-in-32-to-4294967295
returns-in-32-to-4294967295 c = asked-as-plain _ _ (omega arith) (λ q. omega arith) (λ q. omega arith) c.asked_plain-plain.ensures

pub returns-in-16 : goal.returns-in-16
returns-in-16 c = asked-as-plain _ _ (omega arith) (λ q. omega arith) (λ q. omega arith) c.asked_plain-plain.ensures

pub returns-in-16-2 : goal.returns-in-16-2
returns-in-16-2 c = asked-as-plain _ _ (omega arith) (λ q. omega arith) (λ q. omega arith) c.asked_plain-plain.ensures
