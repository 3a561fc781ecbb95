use Rattle.numbers.specs.Cursors.{handed}
use Rattle.reader.specs.KindLaws.{array-no-length, array-no-element, array-got}
use Rattle.reader.proofs.kinds.array.Goals as goal

pub returns-in_err-length : goal.returns-in_err-length
returns-in_err-length c = rw (handed c.from_residual.ensures.1) (array-no-length _ c.small.ensures c.in_err-length.was)

pub returns-in_err-element : goal.returns-in_err-element
returns-in_err-element c = rw (handed c.from_residual-in_err-element.ensures.1) (array-no-element _ c.small.ensures c.in_ok-length.was c.element_kind.ensures c.in_err-element.was)

pub returns : goal.returns
returns c = array-got _ c.small.ensures c.in_ok-length.was c.element_kind.ensures c.in_ok-element.was
