use Rattle.values.specs.Rows.{On, IsLink}
use Rattle.values.proofs.columns.objects_there.Given as goal

abbrev pub invariant-loop-i : goal.invariant-loop-i
invariant-loop-i l = On IsLink l.part l.initial.here.at l.initial.out l.p l.i l.out l.here.at
