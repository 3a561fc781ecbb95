-- `reader::heads::object_count` meets its contract. Assumes nothing.
use Rattle.std.proofs.Common.{arith}
use Rattle.numbers.specs.Cursors.{handed}
use Rattle.reader.specs.Ruled.{number-no, number-judged}
use Rattle.reader.proofs.heads.object_count.Goals as goal

pub returns-in_err-n : goal.returns-in_err-n
returns-in_err-n c = rw (handed c.from_residual.ensures.1) (number-no c.v64.ensures _ c.in_err-n.was (omega arith))

pub returns : goal.returns
returns c = number-judged c.v64.ensures _ c.in_ok-n.was (c.judged_count.ensures.judged _ c.requires) c.judged_count.ensures.below
