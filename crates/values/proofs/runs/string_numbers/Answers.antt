use Rattle.values.specs.Ups.{running-to}
use Rattle.values.proofs.runs.string_numbers.Goals as goal

pub loop-n-preserved : goal.loop-n-preserved
loop-n-preserved c = (running-to c.loop-n.invariant.0 c.numbers_there-a.ensures c.if-strings-a.false c.loop-n.invariant.1.few, c.surely-n-in-loop-n.ensures)
