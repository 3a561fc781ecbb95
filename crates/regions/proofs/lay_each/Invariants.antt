-- `regions::lay_each` meets its contract. The invariant: the chunks that are left, from here, give the whole. Assumes nothing.
use Rattle.regions.specs.Both.{Both}
use Rattle.regions.proofs.lay_each.Given as goal

abbrev pub invariant-loop-i : goal.invariant-loop-i
invariant-loop-i l = Both l.text l.initial.work l.initial.here.next.at l.initial.out l.at l.work l.out l.i l.here
