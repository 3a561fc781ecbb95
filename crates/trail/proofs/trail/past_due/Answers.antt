use Rattle.trail.specs.Heads.{due-not, due-past}
use Rattle.trail.proofs.trail.past_due.Goals as goal

pub returns-then-not-due : goal.returns-then-not-due
returns-then-not-due c = due-not c.if-not-due.true-raw

pub returns : goal.returns
returns c = due-past c.if-not-due.false-raw c.past.ensures
