-- `reader::fields::end_offset` meets its contract. Assumes nothing.
use Rattle.numbers.specs.Cursors.{handed}
use Rattle.reader.specs.FieldNumbers.{end-no, end_falls, end-got}
use Rattle.reader.proofs.fields.end_offset.Goals as goal

pub returns-in_err-e : goal.returns-in_err-e
returns-in_err-e c = rw (handed c.from_residual.ensures.1) (end-no c.v64.ensures c.args.before c.in_err-e.was)

pub returns-then-e-before : goal.returns-then-e-before
returns-then-e-before c = end_falls c.v64.ensures c.args.before c.in_ok-e.was c.if-e-before.true

pub returns : goal.returns
returns c = end-got c.v64.ensures c.args.before c.in_ok-e.was c.if-e-before.false
