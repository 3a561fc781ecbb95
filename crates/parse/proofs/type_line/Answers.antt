use Rattle.paper.specs.Listing.{ascii}
use Rattle.parse.specs.LineLaws.{type-not, type-no-name, type-no-super, type-no-start, type-no-numbers, type-got}
use Rattle.parse.proofs.type_line.Goals as goal

pub returns-in_err-first : goal.returns-in_err-first
unfolding ascii
returns-in_err-first c = rw c.from_residual.ensures (type-not _ _ c.in_err-first.ensures)

pub returns-in_err-name : goal.returns-in_err-name
unfolding ascii
returns-in_err-name c = rw c.from_residual-in_err-name.ensures (type-no-name _ _ c.in_ok-first.ensures c.in_err-name.ensures)

pub returns-in_err-sup : goal.returns-in_err-sup
unfolding ascii
returns-in_err-sup c = rw c.from_residual-in_err-sup.ensures (type-no-super _ _ c.in_ok-first.ensures c.in_ok-name.ensures c.in_err-sup.ensures)

pub returns-in_err-start : goal.returns-in_err-start
unfolding ascii
returns-in_err-start c = rw c.from_residual-in_err-start.ensures (type-no-start _ _ c.in_ok-first.ensures c.in_ok-name.ensures c.in_ok-sup.ensures c.in_err-start.ensures)

pub returns-in_err-count : goal.returns-in_err-count
unfolding ascii
returns-in_err-count c = rw c.from_residual-in_err-count.ensures (type-no-numbers _ _ c.in_ok-first.ensures c.in_ok-name.ensures c.in_ok-sup.ensures c.in_ok-start.ensures c.in_err-count.ensures)

pub returns : goal.returns
unfolding ascii
returns c = type-got _ _ c.in_ok-first.ensures c.in_ok-name.ensures c.in_ok-sup.ensures c.in_ok-start.ensures c.in_ok-count.ensures
