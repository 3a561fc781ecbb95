use Rattle.calls.specs.Told.{told_on}
use Rattle.calls.specs.Behind.{check-accepted, check-refused}
use Rattle.calls.proofs.check_in.Goals as goal

pub returns : goal.returns
returns c = (check-accepted c.read-a.ensures c.in_ok-a.was, c.clear.ensures)

pub returns-in_err-a : goal.returns-in_err-a
returns-in_err-a c = (rw (told_on c.from_residual.ensures.1) (check-refused c.read-a.ensures c.in_err-a.was), c.clear.ensures)
