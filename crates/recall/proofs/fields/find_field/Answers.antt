use Rattle.std.proofs.Common.{arith}
use Rattle.recall.specs.FieldWalks.{find-start, find-on, find-out, find-end}
use Rattle.recall.proofs.fields.find_field.Goals as goal

pub loop-init : goal.loop-init
loop-init c = find-start _ _ _ _ c.start-t.ensures

pub returns-in-Some : goal.returns-in-Some
returns-in-Some c = find-out c.loop.invariant c.loop-test.true c.found_in.ensures c.in-Some.is

pub loop-preserved : goal.loop-preserved
loop-preserved c = find-on c.loop.invariant c.loop-test.true c.found_in.ensures c.in_default.is c.step-t.ensures

pub returns : goal.returns
returns c = find-end c.loop.invariant (omega arith)
