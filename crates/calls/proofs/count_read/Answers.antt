use Rattle.calls.specs.Told.{told_on}
use Rattle.calls.specs.Column.{still-holds}
use Rattle.calls.specs.Behind.{table-known, count-accepted, count-refused}
use Rattle.calls.proofs.count_read.Goals as goal

pub tell_count-requires : goal.tell_count-requires
tell_count-requires c = still-holds (table-known c.requires c.in_ok-a.was)

pub returns : goal.returns
returns c = count-accepted c.requires c.in_ok-a.was _ _ _ c.tell_count.ensures

pub returns-in_err-a : goal.returns-in_err-a
returns-in_err-a c = rw (told_on c.from_residual.ensures.1) (count-refused c.requires c.in_err-a.was _ _ _)
