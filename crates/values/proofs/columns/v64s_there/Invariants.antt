use Rattle.values.specs.Rows.{On, IsV64}
use Rattle.values.proofs.columns.v64s_there.Given as goal

abbrev pub invariant-loop-i : goal.invariant-loop-i
invariant-loop-i g l = On IsV64 l.part l.initial.here.at l.initial.out l.p l.i l.out l.here.at
