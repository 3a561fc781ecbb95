use Rattle.std.proofs.Common.{◌≡◌, ◌-◌, ◌≤◌, length}
use Rattle.pace.specs.Sum.{Summing}
use Rattle.pace.proofs.pace_sum_v64.Given as goal

abbrev pub invariant-loop : goal.invariant-loop
invariant-loop l = (l.counter ≤ l.end) × (l.end ≡ length l.s) × Summing l.s l.sum l.c.at (l.end - l.counter)
