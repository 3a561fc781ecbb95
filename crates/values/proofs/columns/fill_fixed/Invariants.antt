use Rattle.values.specs.Rows.{Row}
use Rattle.values.proofs.columns.fill_fixed.Given as goal

abbrev pub invariant-loop-p : goal.invariant-loop-p
invariant-loop-p g l = Row g.row.KIND g.row.WIDTH l.part l.initial.out l.at l.out l.p l.from.at l.n
