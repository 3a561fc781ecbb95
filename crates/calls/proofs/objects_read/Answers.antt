use Rattle.calls.specs.Told.{told_on}
use Rattle.calls.specs.Column.{still-holds}
use Rattle.calls.specs.Behind.{table-known, objects-accepted, objects-refused}
use Rattle.calls.proofs.objects_read.Goals as goal

pub count_objects-requires : goal.count_objects-requires
count_objects-requires c = still-holds (table-known c.requires c.in_ok-a.was)

pub returns : goal.returns
returns c = objects-accepted c.requires c.in_ok-a.was _ c.count_objects.ensures

pub returns-in_err-a : goal.returns-in_err-a
returns-in_err-a c = rw (told_on c.from_residual.ensures.1) (objects-refused c.requires c.in_err-a.was _)
