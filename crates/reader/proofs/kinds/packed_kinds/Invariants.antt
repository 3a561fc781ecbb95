use Rattle.std.proofs.Common.{◌-◌}
use Rattle.reader.specs.Kinds.{named?}
use Rattle.reader.specs.MapKinds.{KindsGoing}
use Rattle.reader.proofs.kinds.packed_kinds.Given as goal

abbrev pub invariant-loop : goal.invariant-loop
invariant-loop l = KindsGoing (named? l.named) l.file l.initial.next.at l.count (l.count - l.counter) l.packed l.next.at
