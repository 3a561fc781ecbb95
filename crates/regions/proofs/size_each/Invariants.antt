-- `regions::size_each` meets its contract. The invariant: the chunks that are left, from here, give the whole. Assumes nothing.
use Rattle.regions.specs.Turns.{Sizing}
use Rattle.regions.proofs.size_each.Given as goal

abbrev pub invariant-loop-i : goal.invariant-loop-i
invariant-loop-i l = Sizing l.text l.initial.work l.initial.here.at l.work l.here.at l.i
