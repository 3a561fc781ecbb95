use Rattle.std.proofs.Common.{◌≡◌, ◌∙◌, arith}
use Rattle.words.specs.ReadBytes.{peeked-in}
use Rattle.words.specs.ReadDecimals.{digit-inside, natural-not, natural-nought, sure-start, sure-end, sure-room, sure-on}
use Rattle.words.proofs.read.Place.natural.Goals as goal

pub returns-then-first-ge10 : goal.returns-then-first-ge10
returns-then-first-ge10 c = natural-not c.peek.ensures c.digit-first.ensures (omega arith)

pub overflow_add-next : goal.overflow_add-next
overflow_add-next c = let h = digit-inside c.peek.ensures c.digit-first.ensures (omega arith) in omega arith

pub returns-then-first-eq0 : goal.returns-then-first-eq0
returns-then-first-eq0 c = natural-nought c.peek.ensures c.digit-first.ensures (omega arith)

pub loop-p-init : goal.loop-p-init
loop-p-init c = sure-start c.peek.ensures c.digit-first.ensures (omega arith) c.if-first-eq0.false

pub returns-then-d-ge10 : goal.returns-then-d-ge10
returns-then-d-ge10 c = sure-end c.loop-p.invariant (peeked-in _ _ (omega (arith, c.sure_digits-sure.ensures.0)) (omega (arith, c.type_inv.t c.loop-p.p))) (rw c.from.ensures at c.digit-d.ensures) (omega arith)

pub overflow_mul-v : goal.overflow_mul-v
overflow_mul-v c = let h = sure-room c.loop-p.invariant (peeked-in _ _ (omega (arith, c.sure_digits-sure.ensures.0)) (omega (arith, c.type_inv.t c.loop-p.p))) (rw c.from.ensures at c.digit-d.ensures) (omega arith) (omega (arith, c.sure_digits-sure.ensures.1)) in omega arith

pub overflow_add-v : goal.overflow_add-v
overflow_add-v c = let h = sure-room c.loop-p.invariant (peeked-in _ _ (omega (arith, c.sure_digits-sure.ensures.0)) (omega (arith, c.type_inv.t c.loop-p.p))) (rw c.from.ensures at c.digit-d.ensures) (omega arith) (omega (arith, c.sure_digits-sure.ensures.1)) in omega arith

pub loop-p-preserved : goal.loop-p-preserved
loop-p-preserved c = sure-on c.loop-p.invariant (peeked-in _ _ (omega (arith, c.sure_digits-sure.ensures.0)) (omega (arith, c.type_inv.t c.loop-p.p))) (rw c.from.ensures at c.digit-d.ensures) (omega arith) (omega (arith, c.sure_digits-sure.ensures.1))

pub returns : goal.returns
returns c =
    let inside = digit-inside c.peek.ensures c.digit-first.ensures (omega arith) in
    let end : c.loop-p.p ≡ c.sure_digits-sure.result = omega (arith, c.sure_digits-sure.ensures.2 inside, c.loop-p.auto) in
    c.more_digits.ensures ∙ rw end at c.loop-p.invariant.same
