use Rattle.std.proofs.Common.{arith, sym, ◌∙◌}
use Rattle.numbers.specs.Cursors.{handed}
use Rattle.reader.specs.KindLaws.{named-low, element-low, element-type, element-gap, element-no, element-got, element-bad, element-unnamed}
use Rattle.reader.proofs.kinds.element_kind.Goals as goal

pub returns-in_err-k : goal.returns-in_err-k
returns-in_err-k c = rw (handed c.from_residual.ensures.1) (element-no _ c.v64.ensures c.in_err-k.was)

pub returns-then-is_named : goal.returns-then-is_named
returns-then-is_named c = element-got _ c.v64.ensures c.in_ok-k.was (element-type _ (omega arith)) (sym c.if-is_named.true ∙ c.is_named.ensures)

pub returns-in-5-to-14 : goal.returns-in-5-to-14
returns-in-5-to-14 c = element-got _ c.v64.ensures c.in_ok-k.was (element-low _ (omega arith) (omega arith)) (named-low _ _ _ (omega arith))

pub returns-else-is_named : goal.returns-else-is_named
returns-else-is_named c = element-unnamed _ c.v64.ensures c.in_ok-k.was (element-type _ (omega arith)) (sym c.if-is_named.false ∙ c.is_named.ensures)

pub returns-in-0-to-4 : goal.returns-in-0-to-4
returns-in-0-to-4 c = element-bad _ c.v64.ensures c.in_ok-k.was (element-gap _ (λ lo hi. omega arith) (omega arith))

pub returns-in-0-to-4-2 : goal.returns-in-0-to-4-2
returns-in-0-to-4-2 c = element-bad _ c.v64.ensures c.in_ok-k.was (element-gap _ (λ lo hi. omega arith) (omega arith))
