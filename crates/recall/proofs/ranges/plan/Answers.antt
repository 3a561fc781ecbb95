-- The invariant: the first t types have their places. Assumes nothing.
use Rattle.std.proofs.Common.{arith, sym, ◌∙◌}
use Rattle.recall.specs.Groups.{plan-start, plan-room, plan-asked, plan-passed}
use Rattle.recall.proofs.ranges.plan.Goals as goal
use Rattle.recall.proofs.ranges.plan.Goals.{then-asked, else-asked}

pub loop-t-init : goal.loop-t-init
loop-t-init c = plan-start _ _ _ c.requires.0 c.requires.1 c.requires.2

pub overflow_add-k : goal.overflow_add-k
overflow_add-k c = omega (arith, plan-room c.loop-t.invariant)

pub loop-t-preserved : goal.loop-t-preserved
loop-t-preserved c =
    elim c.if-asked.branch [
      | then-asked w ↦ rw (w.places-is, w.k-is) (plan-asked c.loop-t.invariant c.loop-t-test.true (sym c.asked.ensures ∙ w.if-asked.true))
      | else-asked w ↦ rw (w.places-is, w.k-is) (plan-passed c.loop-t.invariant c.loop-t-test.true (sym c.asked.ensures ∙ w.if-asked.false))
    ]
