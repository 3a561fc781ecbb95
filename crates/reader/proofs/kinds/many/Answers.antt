use Rattle.numbers.specs.Cursors.{handed}
use Rattle.reader.specs.KindLaws.{many-no, many-got}
use Rattle.reader.proofs.kinds.many.Goals as goal

pub returns-in_err-element : goal.returns-in_err-element
returns-in_err-element c = rw (handed c.from_residual.ensures.1) (many-no _ c.element_kind.ensures c.requires.0 c.requires.1 c.in_err-element.was)

pub returns : goal.returns
returns c = many-got _ c.element_kind.ensures c.requires.0 c.requires.1 c.in_ok-element.was
