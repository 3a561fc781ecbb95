use Rattle.words.specs.ReadBytes.{ended-not, ended-open, ended-got}
use Rattle.words.proofs.read.Place.or_none_ended.Goals as goal

pub returns-in_err-m : goal.returns-in_err-m
returns-in_err-m c = rw c.from_residual.ensures (ended-not _ _ _ _ (rw c.in_err-m.was at c.or_none.ensures))

pub returns-in_err-e : goal.returns-in_err-e
returns-in_err-e c = rw c.from_residual-in_err-e.ensures (ended-open _ _ _ _ (rw c.in_ok-m.was at c.or_none.ensures) (rw c.in_err-e.was at c.byte.ensures))

pub returns : goal.returns
returns c = ended-got _ _ _ _ (rw c.in_ok-m.was at c.or_none.ensures) (rw c.in_ok-e.was at c.byte.ensures)
