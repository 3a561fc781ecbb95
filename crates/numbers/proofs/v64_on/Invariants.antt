use Rattle.std.proofs.Common.{◌-◌}
use Rattle.numbers.proofs.V64Laws.{Reading}
use Rattle.numbers.proofs.v64_on.Given as goal

abbrev pub invariant-loop-i : goal.invariant-loop-i
invariant-loop-i l = Reading l.s l.at l.x l.weight l.p (7 - l._i)
