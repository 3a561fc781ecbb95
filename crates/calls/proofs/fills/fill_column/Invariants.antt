use Rattle.calls.specs.Fill.{Storing}
use Rattle.calls.proofs.fills.fill_column.Given as goal

abbrev pub invariant-loop-j : goal.invariant-loop-j
invariant-loop-j l = Storing l.file l.work l.i l.k l.initial.out l.out l.at l.j
