use Rattle.values.specs.Unpacked.{Unit}
use Rattle.values.proofs.maps.first_unit.Given as goal

abbrev pub invariant-loop : goal.invariant-loop
invariant-loop l = Unit l.types l.counter l.unit
