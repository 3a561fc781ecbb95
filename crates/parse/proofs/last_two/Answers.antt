use Rattle.parse.specs.LineLaws.{two-no-first, two-no-second, two-got}
use Rattle.parse.proofs.last_two.Goals as goal

pub returns-in_err-first : goal.returns-in_err-first
returns-in_err-first c = rw c.from_residual.ensures (two-no-first _ _ c.in_err-first.ensures)

pub returns-in_err-second : goal.returns-in_err-second
returns-in_err-second c = rw c.from_residual-in_err-second.ensures (two-no-second _ _ c.in_ok-first.ensures c.in_err-second.ensures)

pub returns : goal.returns
returns c = two-got _ _ c.in_ok-first.ensures c.in_ok-second.ensures
