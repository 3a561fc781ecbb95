-- `walk::chunks::object_value` meets its contract. Assumes nothing.
use Rattle.std.proofs.Common.{sym, ◌∙◌, ◌^◌, arith}
use Rattle.numbers.specs.Cursors.{handed, was-got}
use Rattle.values.specs.Pass.{read-passed, passed-with}
use Rattle.values.specs.Items.{linked}
use Rattle.numbers.specs.declared.Fault.TheVariants.{Reference}
use Rattle.values.specs.Held.{ruled-cut, ruled-taken, ruled-refused}
use Rattle.values.specs.RangeLaws.{object-nought}
use Rattle.lookups.specs.Objects.{object-one, object-none}
use Rattle.walk.proofs.chunks.object_value.Goals as goal

pub returns-in_err-n : goal.returns-in_err-n
unfolding linked
returns-in_err-n c = rw (handed c.from_residual.ensures.1) (read-passed (ruled-cut _ Reference (2 ^ 64) c.v64.ensures c.in_err-n.was (omega arith)))

pub returns-then-n-eq0 : goal.returns-then-n-eq0
unfolding linked
returns-then-n-eq0 c = passed-with _ (read-passed (ruled-taken _ Reference (2 ^ 64) c.v64.ensures c.in_ok-n.was (object-nought _ _ _ c.if-n-eq0.true) (was-got c.v64.ensures c.in_ok-n.was).below))

pub returns-then-is_object : goal.returns-then-is_object
unfolding linked
returns-then-is_object c = passed-with _ (read-passed (ruled-taken _ Reference (2 ^ 64) c.v64.ensures c.in_ok-n.was (object-one _ _ _ (sym c.is_object.ensures ∙ c.if-is_object.true)) (was-got c.v64.ensures c.in_ok-n.was).below))

pub returns : goal.returns
unfolding linked
returns c = read-passed (ruled-refused _ Reference (2 ^ 64) c.v64.ensures c.in_ok-n.was (object-none _ _ _ c.if-n-eq0.false (sym c.is_object.ensures ∙ c.if-is_object.false)) (omega arith))
