use Rattle.std.proofs.Common.{sym, ◌∙◌, arith}
use Rattle.parse.specs.KindLaws.{array-no-comma, array-no-length, array-no-element, array_long, array-got, array-gap}
use Rattle.parse.proofs.kinds.array.Goals as goal

pub returns-in_err-length : goal.returns-in_err-length
returns-in_err-length c = rw c.from_residual.ensures (array-no-comma _ _ c.in_err-length.ensures)

pub returns-in_err-n : goal.returns-in_err-n
returns-in_err-n c = rw c.from_residual-in_err-n.ensures (array-no-length _ _ c.in_ok-length.ensures c.in_err-n.ensures)

pub returns-in_err-e : goal.returns-in_err-e
returns-in_err-e c = rw c.from_residual-in_err-e.ensures (array-no-element _ _ c.in_ok-length.ensures c.in_ok-n.ensures c.in_err-e.ensures)

pub returns-then-not-is_small : goal.returns-then-not-is_small
returns-then-not-is_small c = array_long _ _ c.in_ok-length.ensures c.in_ok-n.ensures c.in_ok-e.ensures (omega arith) c.is_small.ensures c.if-not-is_small.true-raw

pub returns-then-is_element : goal.returns-then-is_element
returns-then-is_element c = array-got _ _ c.in_ok-length.ensures c.in_ok-n.ensures c.in_ok-e.ensures (omega arith) c.is_small.ensures c.if-not-is_small.false-raw (sym c.if-is_element.true ∙ c.is_element.ensures)

pub returns : goal.returns
returns c = array-gap _ _ c.in_ok-length.ensures c.in_ok-n.ensures c.in_ok-e.ensures (omega arith) c.is_small.ensures c.if-not-is_small.false-raw (sym c.if-is_element.false ∙ c.is_element.ensures)
