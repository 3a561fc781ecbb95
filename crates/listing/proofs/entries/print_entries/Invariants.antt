use Rattle.std.proofs.Common.{◌-◌}
use Rattle.listing.specs.Entries.{EntriesPrinting}
use Rattle.listing.proofs.entries.print_entries.Given as goal

abbrev pub invariant-loop : goal.invariant-loop
invariant-loop l = EntriesPrinting l.file l.initial.work l.work l.initial.here l.count (l.count - l.counter) l.last l.here l.initial.out l.at l.out l.p
