use Rattle.std.proofs.Common.{arith, ap, ◌∙◌, ℕ, ◌+◌}
use Rattle.words.specs.Stored.{decimal-longer}
use Rattle.words.proofs.write.digits_of.Goals as goal

pub returns-then-x-lt100000000 : goal.returns-then-x-lt100000000
returns-then-x-lt100000000 c = ap (λ (n : ℕ). 4 + n) c.short_length-then-x-lt100000000.ensures.0 ∙ decimal-longer 4 _ (omega arith)

pub returns-then-x-lt1000000000000 : goal.returns-then-x-lt1000000000000
returns-then-x-lt1000000000000 c = ap (λ (n : ℕ). 8 + n) c.short_length-then-x-lt1000000000000.ensures.0 ∙ decimal-longer 8 _ (omega arith)

pub returns-then-x-lt10000000000000000 : goal.returns-then-x-lt10000000000000000
returns-then-x-lt10000000000000000 c = ap (λ (n : ℕ). 12 + n) c.short_length-then-x-lt10000000000000000.ensures.0 ∙ decimal-longer 12 _ (omega arith)

pub returns : goal.returns
returns c = ap (λ (n : ℕ). 16 + n) c.short_length-2.ensures.0 ∙ decimal-longer 16 _ (omega arith)
