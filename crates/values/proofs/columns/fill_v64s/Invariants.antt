use Rattle.std.proofs.Common.{◌-◌, length}
use Rattle.values.specs.Filling.{Filling}
use Rattle.values.proofs.columns.fill_v64s.Given as goal

abbrev pub invariant-loop-from : goal.invariant-loop-from
invariant-loop-from l = Filling 11 l.part l.initial.out l.at l.out l.p l.from.at

abbrev pub decreases-loop-from : goal.decreases-loop-from
decreases-loop-from l = length l.initial.out - l.p
