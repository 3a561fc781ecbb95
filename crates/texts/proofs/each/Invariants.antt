use Rattle.std.proofs.Common.{◌-◌, ◌≡◌, length}
use Rattle.texts.specs.Told.{Repeats}
use Rattle.texts.proofs.each.Given as goal

abbrev pub invariant-loop : goal.invariant-loop
invariant-loop g l =
    (length l.out ≡ length l.initial.out)
    × ((x : _) (m : _) → Repeats (goal.F-post g l.one) (l.n - l.counter) l.here l.out x m → Repeats (goal.F-post g l.one) l.n l.initial.here l.initial.out x m)
