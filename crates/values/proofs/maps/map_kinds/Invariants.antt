use Rattle.values.specs.Unpacked.{Unpacking}
use Rattle.values.proofs.maps.map_kinds.Given as goal

abbrev pub invariant-loop-i : goal.invariant-loop-i
invariant-loop-i l = Unpacking l.types l.packed l.initial.kinds l.kinds l.unit l.rest l.i
