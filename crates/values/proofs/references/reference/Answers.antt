use Rattle.std.proofs.Common.{◌^◌, arith}
use Rattle.values.specs.Pass.{read-passed, passed-with}
use Rattle.numbers.specs.declared.Fault.TheVariants.{Reference}
use Rattle.numbers.specs.Cursors.{handed, was-got}
use Rattle.values.specs.Items.{linked}
use Rattle.values.specs.Held.{ruled-cut, ruled-taken, ruled-refused}
use Rattle.values.specs.RangeLaws.{object-nought, object-found, object-missing}
use Rattle.values.proofs.references.reference.Goals as goal

pub returns-in_err-n : goal.returns-in_err-n
unfolding linked
returns-in_err-n c = rw (handed c.from_residual.ensures.1) (read-passed (ruled-cut _ Reference (2 ^ 64) c.v64.ensures c.in_err-n.was (omega arith)))

pub returns-then-n-eq0 : goal.returns-then-n-eq0
unfolding linked
returns-then-n-eq0 c = passed-with _ (read-passed (ruled-taken _ Reference (2 ^ 64) c.v64.ensures c.in_ok-n.was (object-nought _ _ _ c.if-n-eq0.true) (was-got c.v64.ensures c.in_ok-n.was).below))

pub returns-then-ranges-range_of : goal.returns-then-ranges-range_of
unfolding linked
returns-then-ranges-range_of c = read-passed (ruled-refused _ Reference (2 ^ 64) c.v64.ensures c.in_ok-n.was (object-missing _ _ _ c.if-n-eq0.false c.range_of.ensures (omega arith)) (omega arith))

pub returns : goal.returns
unfolding linked
returns c = passed-with _ (read-passed (ruled-taken _ Reference (2 ^ 64) c.v64.ensures c.in_ok-n.was (object-found _ _ _ c.range_of.ensures (omega arith)) (was-got c.v64.ensures c.in_ok-n.was).below))
