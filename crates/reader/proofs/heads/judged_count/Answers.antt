-- `reader::heads::judged_count` meets its contract. Assumes nothing.
use Rattle.std.proofs.Common.{refl, sym, ◌∙◌, [], arith}
use borrow.Author.Tests.{not-true}
use Rattle.reader.specs.CountLaws.{few-most, count-over, count-out, count-in}
use Rattle.reader.proofs.heads.judged_count.Goals as goal

pub returns-then-not-few_objects : goal.returns-then-not-few_objects
returns-then-not-few_objects c = count-over _ _ (λ f. sym (c.few_objects.ensures f) ∙ not-true _ c.if-not-few_objects.true-raw)

pub overflow_cast-n : goal.overflow_cast-n
overflow_cast-n c = omega (arith, few-most _ _ _ (sym (c.few_objects.ensures []) ∙ c.if-not-few_objects.false))

pub returns-then-not-in_range : goal.returns-then-not-in_range
returns-then-not-in_range c = count-out _ _ (λ f. sym (c.few_objects.ensures f) ∙ c.if-not-few_objects.false) (λ f. sym (c.in_range.ensures f) ∙ not-true _ c.if-not-in_range.true-raw)

pub returns : goal.returns
returns c = count-in _ _ (λ f. sym (c.few_objects.ensures f) ∙ c.if-not-few_objects.false) refl (λ f. sym (c.in_range.ensures f) ∙ c.if-not-in_range.false)
