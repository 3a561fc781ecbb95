use Rattle.std.proofs.Common.{◌-◌}
use Rattle.fronts.specs.Maps.{KindsGoing}
use Rattle.fronts.proofs.maps.put_kinds.Given as goal

abbrev pub invariant-loop : goal.invariant-loop
invariant-loop l = KindsGoing l.text l.initial.from.at l.n l.initial.out l.at l.from.at (l.n - l.counter) l.out l.to
