use Rattle.numbers.specs.Cursors.{handed}
use Rattle.values.specs.Listed.{single-5}
use Rattle.values.specs.Columns.{value-cut, value-got}
use Rattle.values.proofs.columns.read_value.Goals as goal

pub returns-in_err-n : goal.returns-in_err-n
returns-in_err-n c = rw (handed c.from_residual.ensures.1) (value-cut (single-5 _ c.requires) c.number_of.ensures c.in_err-n.was)

pub returns : goal.returns
returns c = value-got (single-5 _ c.requires) c.number_of.ensures c.in_ok-n.was c.value_of.ensures
