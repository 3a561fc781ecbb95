-- `reader::heads::named_super` meets its contract. Assumes nothing.
use Rattle.numbers.specs.Cursors.{handed}
use Rattle.reader.specs.HeadLaws.{super-no, super-read}
use Rattle.reader.proofs.heads.named_super.Goals as goal

pub returns-in_err-n : goal.returns-in_err-n
returns-in_err-n c = rw (handed c.from_residual.ensures.1) (super-no _ _ c.v64.ensures c.in_err-n.was)

pub returns : goal.returns
returns c = super-read _ _ c.v64.ensures c.in_ok-n.was c.judged_super.ensures
