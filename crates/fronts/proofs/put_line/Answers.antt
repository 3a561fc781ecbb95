use Rattle.fronts.specs.Maps.{line-map, line_other}
use Rattle.fronts.proofs.put_line.Goals as goal

pub returns-then-line-eq20 : goal.returns-then-line-eq20
returns-then-line-eq20 c = line-map c.if-line-eq20.true c.put_map.ensures

pub returns : goal.returns
returns c = line_other c.if-line-eq20.false c.put_new.ensures
