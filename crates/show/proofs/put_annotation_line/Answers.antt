use Rattle.show.specs.Lines.{two_none, two-cut, two-shows, one_line}
use Rattle.show.proofs.put_annotation_line.Goals as goal

pub returns-in_default : goal.returns-in_default
returns-in_default c = one_line (two_none c.v64.ensures c.in_default.is)

pub returns-in_default-v64 : goal.returns-in_default-v64
returns-in_default-v64 c = one_line (two-cut c.v64.ensures c.in-Ok.is c.v64-2.ensures c.in_default-v64.is)

pub returns : goal.returns
returns c = one_line (two-shows c.v64.ensures c.in-Ok.is c.v64-2.ensures c.in-Ok-v64.is c.put_two_line-end.ensures)
