use Rattle.std.proofs.Common.{arith}
use Rattle.texts.specs.Quiet.{counting-start, counting-end, counting-newline, counting-tab, counting-quiet}
use Rattle.texts.proofs.tabs_left.Goals as goal
use Rattle.texts.proofs.tabs_left.Goals.{then-b-eq-TAB, else-b-eq-TAB}

pub loop-at-init : goal.loop-at-init
loop-at-init c = counting-start _ _

pub returns-then-b-eq-NEWLINE : goal.returns-then-b-eq-NEWLINE
returns-then-b-eq-NEWLINE c = counting-newline c.loop-at.invariant c.peek-b.ensures c.if-b-eq-NEWLINE.true

pub loop-at-preserved : goal.loop-at-preserved
loop-at-preserved c = elim c.if-b-eq-TAB.branch [
  | then-b-eq-TAB w ↦ rw w.n-is (counting-tab c.loop-at.invariant c.peek-b.ensures w.if-b-eq-TAB.true)
  | else-b-eq-TAB w ↦ rw w.n-is (counting-quiet c.loop-at.invariant c.peek-b.ensures c.if-b-eq-NEWLINE.false w.if-b-eq-TAB.false)
]

pub returns : goal.returns
returns c = counting-end c.loop-at.invariant (omega arith)
