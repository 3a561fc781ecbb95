use Rattle.std.proofs.Common.{◌≡◌, ◌-◌}
use Rattle.parse.specs.OldLaws.{olds}
use Rattle.parse.proofs.old_lines.Given as goal

abbrev pub invariant-loop : goal.invariant-loop
invariant-loop l = olds (l.n - l.counter) l.t l.at.at ≡ olds l.n l.t l.initial.at.at
