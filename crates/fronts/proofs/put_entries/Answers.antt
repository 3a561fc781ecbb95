use Rattle.std.proofs.Common.{arith}
use Rattle.lay.specs.Laid.{most}
use Rattle.fronts.specs.Puts.{going_start, going_on, going-no, going_done, entries-put, entries-cut}
use Rattle.fronts.proofs.put_entries.Goals as goal

pub loop-init : goal.loop-init
unfolding most
loop-init c = going_start _ _ _ _ _ _ _ (omega arith) (omega arith) (omega arith)

pub returns-in_default : goal.returns-in_default
returns-in_default c = entries-cut _ (going-no c.loop.invariant (omega arith) c.in_default.ensures) _

pub loop-preserved : goal.loop-preserved
loop-preserved c = going_on c.loop.invariant (omega arith) c.put_entry.auto.out c.in-Some.ensures

pub returns : goal.returns
returns c = entries-put _ (going_done c.loop.invariant (omega arith))
