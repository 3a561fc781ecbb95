use Rattle.std.proofs.Common.{◌-◌}
use Rattle.fronts.specs.Lines.{entry_lines, ends_of_entry, entry_bytes}
use Rattle.fronts.specs.Puts.{Going}
use Rattle.fronts.proofs.put_entries.Given as goal

abbrev pub invariant-loop : goal.invariant-loop
invariant-loop l = Going entry_lines ends_of_entry entry_bytes l.text l.work l.n l.initial.here l.initial.out (l.n - l.counter) l.here l.out
