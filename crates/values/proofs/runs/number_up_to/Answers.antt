use Rattle.std.proofs.Common.{arith, le-leb}
use Rattle.numbers.specs.declared.Fault.TheVariants.{Reference}
use Rattle.numbers.specs.Cursors.{handed}
use Rattle.values.specs.Items.{linked, at_most}
use borrow.Author.Tests.{lt-leb}
use Rattle.values.specs.Held.{ruled-cut, ruled-taken, ruled-refused}
use Rattle.values.proofs.runs.number_up_to.Goals as goal

pub returns-in_err-n : goal.returns-in_err-n
unfolding linked
returns-in_err-n c = rw (handed c.from_residual.ensures.1) (ruled-cut _ Reference _ c.v64.ensures c.in_err-n.was (omega arith))

pub returns-then-most-n : goal.returns-then-most-n
unfolding linked at_most
returns-then-most-n c = ruled-refused _ Reference _ c.v64.ensures c.in_ok-n.was (lt-leb c.in_ok-n.n c.args.most (omega arith)) (omega arith)

pub returns : goal.returns
unfolding linked at_most
returns c = ruled-taken _ Reference _ c.v64.ensures c.in_ok-n.was (le-leb c.in_ok-n.n c.args.most (omega arith)) (omega arith)
