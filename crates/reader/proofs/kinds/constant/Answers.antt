use Rattle.numbers.specs.Cursors.{handed}
use Rattle.reader.specs.KindLaws.{constant-no, constant-got}
use Rattle.reader.proofs.kinds.constant.Goals as goal

pub returns-in_err-bits : goal.returns-in_err-bits
returns-in_err-bits c = rw (handed c.from_residual.ensures.1) (constant-no c.constant_bits.ensures c.requires c.in_err-bits.was)

pub returns : goal.returns
returns c = constant-got c.constant_bits.ensures c.requires c.in_ok-bits.was
