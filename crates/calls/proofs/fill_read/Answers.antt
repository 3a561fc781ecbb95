use Rattle.calls.specs.Told.{told_on}
use Rattle.calls.specs.Behind.{table-known, fill-accepted, fill-refused}
use Rattle.calls.proofs.fill_read.Goals as goal

pub write_values-requires : goal.write_values-requires
write_values-requires c = table-known c.requires c.in_ok-a.was

pub returns : goal.returns
returns c = fill-accepted c.requires c.in_ok-a.was _ _ _ c.write_values.ensures

pub returns-in_err-a : goal.returns-in_err-a
returns-in_err-a c = rw (told_on c.from_residual.ensures.1) (fill-refused c.requires c.in_err-a.was _ _ _)
