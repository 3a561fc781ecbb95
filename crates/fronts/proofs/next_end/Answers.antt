use Rattle.std.proofs.Common.{arith}
use Rattle.fronts.specs.Ends.{none_left, next-most, next-sum}
use Rattle.fronts.proofs.next_end.Goals as goal

pub returns-then-room-due : goal.returns-then-room-due
returns-then-room-due c = next-most _ _ c.requires (omega arith) c.due_at-due.ensures (omega arith)

pub returns-then-e-dues : goal.returns-then-e-dues
returns-then-e-dues c = next-sum _ _ c.requires (omega arith) c.due_at-due.ensures (omega arith) (omega arith)

pub returns : goal.returns
returns c = none_left _ _ c.requires (omega arith)
