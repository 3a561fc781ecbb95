-- `reader::strings::read_ends` meets its contract. Assumes nothing.
use Rattle.std.proofs.Common.{◌-◌}
use Rattle.reader.specs.EndLaws.{Ending}
use Rattle.reader.proofs.strings.read_ends.Given as goal

abbrev pub invariant-loop : goal.invariant-loop
invariant-loop l = Ending l.file l.initial.work l.work l.base l.n l.initial.next.at (l.n - l.counter) l.prev l.next.at
