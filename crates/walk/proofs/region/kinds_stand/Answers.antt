-- `walk::region::kinds_stand` meets its contract. The invariant: the fields that are left give the whole. Assumes nothing.
use Rattle.std.proofs.Common.{arith}
use borrow.Author.Tests.{not-true}
use Rattle.walk.specs.Stand.{stand-done, stand-out, stand-on}
use Rattle.walk.proofs.region.kinds_stand.Goals as goal

pub returns-then-not-stands : goal.returns-then-not-stands
returns-then-not-stands c = stand-out c.loop-i.invariant (omega arith) c.types-declared.ensures c.field_at-kind.ensures.result_value c.stands.ensures (not-true _ c.if-not-stands.true-raw)

pub loop-i-preserved : goal.loop-i-preserved
loop-i-preserved c = stand-on c.loop-i.invariant (omega arith) c.types-declared.ensures c.field_at-kind.ensures.result_value c.stands.ensures c.if-not-stands.false

pub returns : goal.returns
returns c = stand-done c.loop-i.invariant (omega arith)
