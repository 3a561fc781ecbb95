use Rattle.numbers.specs.Cursors.{handed}
use Rattle.numbers.specs.Ruled.{within, beyond, small-no, small-big, small-got}
use Rattle.numbers.proofs.Cursor.small.Goals as goal

pub returns-in_err-n : goal.returns-in_err-n
returns-in_err-n c = rw (handed c.from_residual.ensures.1) (small-no c.v64.ensures c.in_err-n.was)

pub returns-then-not-is_small : goal.returns-then-not-is_small
returns-then-not-is_small c = rw c.refuse.ensures (small-big c.v64.ensures c.in_ok-n.was (beyond c.is_small.ensures c.if-not-is_small.true-raw))

pub returns : goal.returns
returns c = small-got c.v64.ensures c.in_ok-n.was (within c.is_small.ensures c.if-not-is_small.false-raw)
