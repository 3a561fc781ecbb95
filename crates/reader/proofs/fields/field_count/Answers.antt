-- `reader::fields::field_count` meets its contract. Assumes nothing.
use Rattle.std.proofs.Common.{arith}
use Rattle.numbers.specs.Cursors.{was-got, handed}
use Rattle.reader.specs.Ruled.{judged-below, number-no, number-judged}
use Rattle.reader.proofs.fields.field_count.Goals as goal

pub returns-in_err-n : goal.returns-in_err-n
returns-in_err-n c = rw (handed c.from_residual.ensures.1) (number-no c.v64.ensures _ c.in_err-n.was (omega arith))

pub returns : goal.returns
returns c = let judged = c.judged_field_count.ensures _ c.requires in number-judged c.v64.ensures _ c.in_ok-n.was judged (judged-below _ judged (omega arith) (was-got c.v64.ensures c.in_ok-n.was).below)
