use Rattle.numbers.specs.Cursors.{handed}
use Rattle.walk.specs.LateLaws.{late-got, late-no}
use Rattle.walk.proofs.pairs.late_kind.Goals as goal

pub returns : goal.returns
returns c = late-got c.requires c.cut_back.ensures c.types-declared.ensures c.front.ensures c.in_ok-end.was

pub returns-in_err-end : goal.returns-in_err-end
returns-in_err-end c = rw (handed c.from_residual.ensures.1) (late-no c.requires c.cut_back.ensures c.types-declared.ensures c.front.ensures c.in_err-end.was)
