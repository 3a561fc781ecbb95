use Rattle.std.proofs.Common.{rules}
use Rattle.show.specs.Lines.{list}
use Rattle.show.proofs.put_lists.Goals as goal

pub returns : goal.returns
returns c = c.lines_of.ensures (list c.args.e) c.args.part.now (record { each = λ h x o y e. search rules })
