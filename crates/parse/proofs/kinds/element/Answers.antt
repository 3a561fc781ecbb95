use Rattle.std.proofs.Common.{sym, ◌∙◌}
use Rattle.parse.specs.KindLaws.{element-no-comma, element-none, element-got, element-broken}
use Rattle.parse.proofs.kinds.element.Goals as goal

pub returns-in_err-word : goal.returns-in_err-word
returns-in_err-word c = rw c.from_residual.ensures (element-no-comma _ _ c.in_err-word.ensures)

pub returns-in_err-e : goal.returns-in_err-e
returns-in_err-e c = rw c.from_residual-in_err-e.ensures (element-none _ _ c.in_ok-word.ensures c.in_err-e.ensures)

pub returns-then-is_element : goal.returns-then-is_element
returns-then-is_element c = element-got _ _ c.in_ok-word.ensures c.in_ok-e.ensures (sym c.if-is_element.true ∙ c.is_element.ensures)

pub returns : goal.returns
returns c = element-broken _ _ c.in_ok-word.ensures c.in_ok-e.ensures (sym c.if-is_element.false ∙ c.is_element.ensures)
