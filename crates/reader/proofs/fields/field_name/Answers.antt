-- `reader::fields::field_name` meets its contract. Assumes nothing.
use Rattle.std.proofs.Common.{arith}
use Rattle.numbers.specs.Cursors.{was-got, handed}
use Rattle.reader.specs.Ruled.{judged-below, number-no, number-judged}
use Rattle.reader.proofs.fields.field_name.Goals as goal

pub returns-in_err-n : goal.returns-in_err-n
returns-in_err-n c = rw (handed c.from_residual.ensures.1) (number-no c.v64.ensures _ c.in_err-n.was (omega arith))

pub returns : goal.returns
returns c = number-judged c.v64.ensures _ c.in_ok-n.was c.judged_field_name.ensures (judged-below _ c.judged_field_name.ensures (omega arith) (was-got c.v64.ensures c.in_ok-n.was).below)
