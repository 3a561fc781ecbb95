use Rattle.std.proofs.Common.{◌-◌}
use Rattle.build.specs.Strings.{Stringing}
use Rattle.build.proofs.strings.strings_text.Given as goal

abbrev pub invariant-loop : goal.invariant-loop
invariant-loop l = Stringing l.text l.initial.work l.n l.initial.at l.work (l.n - l.counter) l.at
