use Rattle.std.proofs.Common.{◌-◌, length}
use Rattle.values.specs.Rows.{Links}
use Rattle.values.proofs.columns.fill_objects.Given as goal

abbrev pub invariant-loop-from : goal.invariant-loop-from
invariant-loop-from l = Links l.part l.initial.out l.at l.out l.p l.from.at

abbrev pub decreases-loop-from : goal.decreases-loop-from
decreases-loop-from l = length l.initial.out - l.p
