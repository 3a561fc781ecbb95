use Rattle.std.proofs.Common.{◌-◌}
use Rattle.reader.specs.Kinds.{named?}
use Rattle.reader.specs.EntryLaws.{EntriesGoing}
use Rattle.reader.proofs.entries.entries.Given as goal

abbrev pub invariant-loop : goal.invariant-loop
invariant-loop l = EntriesGoing l.file l.initial.work l.work (named? l.named) l.initial.next.at l.count (l.count - l.counter) l.last l.next.at
