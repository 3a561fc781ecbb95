use Rattle.std.proofs.Common.{sym, ◌∙◌, arith}
use Rattle.table.specs.View.{view}
use Rattle.reader.specs.CountLaws.{range-base}
use Rattle.reader.specs.KnownHeads.{count-there}
use Rattle.reader.proofs.known.count_byte.Goals as goal

pub returns-then-n-gt127 : goal.returns-then-n-gt127
returns-then-n-gt127 c = λ lt. absurd (omega arith)

pub returns-then-not-few_objects : goal.returns-then-not-few_objects
returns-then-not-few_objects c = λ lt. absurd (omega arith)

pub returns-then-up-eq0 : goal.returns-then-up-eq0
returns-then-up-eq0 c = λ lt. count-there _ _ c.requires (c.one_byte-n.ensures lt) (λ f. sym (c.few_objects.ensures f) ∙ c.if-not-few_objects.false) (λ f. sym (range-base (view f c.args.work.now) _ _ _ c.if-up-eq0.true))

pub returns-then-not-in_range : goal.returns-then-not-in_range
returns-then-not-in_range c = λ lt. absurd (omega arith)

pub returns : goal.returns
returns c = λ lt. count-there _ _ c.requires (c.one_byte-n.ensures lt) (λ f. sym (c.few_objects.ensures f) ∙ c.if-not-few_objects.false) (λ f. sym (c.in_range.ensures f) ∙ c.if-not-in_range.false)
