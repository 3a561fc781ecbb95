use Rattle.std.proofs.Common.{arith, length-set}
use Rattle.words.specs.Stored.{four-stored}
use Rattle.words.proofs.write.store_four.Goals as goal

pub bounds-out-at-2 : goal.bounds-out-at-2
bounds-out-at-2 c = rw length-set (omega arith)

pub bounds-out-at-3 : goal.bounds-out-at-3
bounds-out-at-3 c = rw (length-set, length-set) (omega arith)

pub bounds-out-at-4 : goal.bounds-out-at-4
bounds-out-at-4 c = rw (length-set, length-set, length-set) (omega arith)

pub returns : goal.returns
returns c = four-stored _ _ _
