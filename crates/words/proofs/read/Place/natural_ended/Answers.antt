use Rattle.words.specs.ReadBytes.{ended-not, ended-open, ended-got}
use Rattle.words.proofs.read.Place.natural_ended.Goals as goal

pub returns-in_err-n : goal.returns-in_err-n
returns-in_err-n c = rw c.from_residual.ensures (ended-not _ _ _ _ (rw c.in_err-n.was at c.natural.ensures))

pub returns-in_err-e : goal.returns-in_err-e
returns-in_err-e c = rw c.from_residual-in_err-e.ensures (ended-open _ _ _ _ (rw c.in_ok-n.was at c.natural.ensures) (rw c.in_err-e.was at c.byte.ensures))

pub returns : goal.returns
returns c = ended-got _ _ _ _ (rw c.in_ok-n.was at c.natural.ensures) (rw c.in_ok-e.was at c.byte.ensures)
