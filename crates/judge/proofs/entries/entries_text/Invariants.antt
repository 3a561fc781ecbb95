-- `judge::entries::entries_text` meets its contract. Assumes nothing.
use Rattle.std.proofs.Common.{◌-◌}
use Rattle.judge.specs.EntriesLaws.{EntriesGoing}
use Rattle.judge.proofs.entries.entries_text.Given as goal

abbrev pub invariant-loop : goal.invariant-loop
invariant-loop l = EntriesGoing l.text l.initial.work l.work l.initial.at.at l.n (l.n - l.counter) l.at.at
