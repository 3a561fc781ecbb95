use Rattle.std.proofs.Common.{◌-◌}
use Rattle.parse.specs.MapLaws.{KindsGoing}
use Rattle.parse.proofs.kinds.map_kinds.Given as goal

abbrev pub invariant-loop : goal.invariant-loop
invariant-loop l = KindsGoing l.t l.initial.at.at l.n l.at.at (l.n - l.counter) l.packed
