use Rattle.std.proofs.Common.{arith}
use Rattle.numbers.specs.Cursors.{handed}
use Rattle.reader.specs.KindLaws.{types-no, types-got, types-bad}
use Rattle.reader.proofs.kinds.type_count.Goals as goal

pub returns-in_err-n : goal.returns-in_err-n
returns-in_err-n c = rw (handed c.from_residual.ensures.1) (types-no c.v64.ensures c.in_err-n.was)

pub returns-in-2-to-8 : goal.returns-in-2-to-8
returns-in-2-to-8 c = types-got c.v64.ensures c.in_ok-n.was (omega arith) (omega arith)

pub returns-in_default : goal.returns-in_default
returns-in_default c = types-bad c.v64.ensures c.in_ok-n.was (λ lo hi. omega arith)

pub returns-in_default-2 : goal.returns-in_default-2
returns-in_default-2 c = types-bad c.v64.ensures c.in_ok-n.was (λ lo hi. omega arith)
