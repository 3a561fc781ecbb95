-- `reader::heads::type_name` meets its contract. Assumes nothing.
use Rattle.numbers.specs.Cursors.{handed}
use Rattle.reader.specs.HeadLaws.{name-no, name-read}
use Rattle.reader.proofs.heads.type_name.Goals as goal

pub returns-in_err-n : goal.returns-in_err-n
returns-in_err-n c = rw (handed c.from_residual.ensures.1) (name-no _ c.v64.ensures c.in_err-n.was)

pub returns : goal.returns
returns c = name-read _ c.v64.ensures c.in_ok-n.was c.judged_name.ensures
