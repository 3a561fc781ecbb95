use Rattle.std.proofs.Common.{◌-◌}
use Rattle.values.specs.Quick.{Paired}
use Rattle.values.proofs.maps.pairs_behind.Given as goal

abbrev pub invariant-loop : goal.invariant-loop
invariant-loop l = Paired l.key l.value l.part l.n l.at (l.n - l.counter) l.here
