use Rattle.std.proofs.Common.{refl, sym, ◌∙◌, arith}
use Rattle.words.specs.ReadDecimals.{fits, digit-inside, digits-end, digits-on, digits-large}
use Rattle.words.proofs.read.more_digits.Goals as goal

pub loop-at-init : goal.loop-at-init
loop-at-init c = record { same = refl }

pub returns-then-d-ge10 : goal.returns-then-d-ge10
returns-then-d-ge10 c = sym (digits-end c.peek.ensures c.digit-d.ensures c.loop-at.v (omega arith)) ∙ c.loop-at.invariant.same

pub returns-then-too_large : goal.returns-then-too_large
returns-then-too_large c = sym (digits-large c.peek.ensures c.digit-d.ensures (omega arith) c.loop-at.v (sym c.too_large.ensures ∙ c.if-too_large.true)) ∙ c.loop-at.invariant.same

pub overflow_mul-v : goal.overflow_mul-v
overflow_mul-v c = let h = fits _ _ (sym c.too_large.ensures ∙ c.if-too_large.false) in omega arith

pub overflow_add-v : goal.overflow_add-v
overflow_add-v c = let h = fits _ _ (sym c.too_large.ensures ∙ c.if-too_large.false) in omega arith

pub overflow_add-p : goal.overflow_add-p
overflow_add-p c = let h = digit-inside c.peek.ensures c.digit-d.ensures (omega arith) in omega arith

pub loop-at-smaller : goal.loop-at-smaller
loop-at-smaller c = let h = digit-inside c.peek.ensures c.digit-d.ensures (omega arith) in omega arith

pub loop-at-preserved : goal.loop-at-preserved
loop-at-preserved c = record { same = sym (digits-on c.peek.ensures c.digit-d.ensures (omega arith) c.loop-at.v (sym c.too_large.ensures ∙ c.if-too_large.false)) ∙ c.loop-at.invariant.same }
