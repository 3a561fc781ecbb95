-- `judge::fields::known_due` meets its contract. Assumes nothing.
use Rattle.std.proofs.Common.{arith}
use Rattle.judge.specs.FieldsKnown.{dues-skip, dues-begin, dues-next, dues-done}
use Rattle.judge.proofs.fields.known_due.Goals as goal

pub returns-then-added-eq0 : goal.returns-then-added-eq0
returns-then-added-eq0 c = dues-skip c.args.t c.if-added-eq0.true

pub stretch_of-own-requires : goal.stretch_of-own-requires
stretch_of-own-requires c = c.requires.holds.ok

pub loop-i-init : goal.loop-i-init
loop-i-init c = dues-begin c.requires c.if-added-eq0.false c.stretch_of-own.ensures

pub due_if_known-requires : goal.due_if_known-requires
due_if_known-requires c = record { ready = c.loop-i.invariant.ready; i_bound = omega arith }

pub loop-i-preserved : goal.loop-i-preserved
loop-i-preserved c = dues-next c.loop-i.invariant c.loop-i-test.true c.due_if_known.ensures c.due_if_known.auto.work

pub shape_of-work : goal.shape_of-work
shape_of-work c = c.loop-i.invariant.long

pub returns : goal.returns
returns c = dues-done c.loop-i.invariant c.loop-i-test.false
