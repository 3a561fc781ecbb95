use Rattle.show.specs.Single.{line_of, single-low}
use Rattle.show.specs.Lines.{fixed-none, fixed-below, fixed-shows, one_line}
use Rattle.show.proofs.put_other_line.Goals as goal

pub returns-in_default : goal.returns-in_default
returns-in_default c = one_line (fixed-none c.requires c.width_of.ensures c.fixed.ensures line_of c.in_default.is)

pub value_of-requires : goal.value_of-requires
value_of-requires c = (single-low c.requires, fixed-below c.requires c.width_of.ensures c.fixed.ensures line_of c.in-Ok.is)

pub returns : goal.returns
returns c = one_line (fixed-shows c.requires c.width_of.ensures c.fixed.ensures line_of c.in-Ok.is c.value_of.result c.value_of.ensures c.put_element_line-end.ensures)
