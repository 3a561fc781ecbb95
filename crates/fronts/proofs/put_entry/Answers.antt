use Rattle.fronts.specs.Puts.{entry-put, entry-not}
use Rattle.fronts.proofs.put_entry.Goals as goal

pub returns-in_err-line : goal.returns-in_err-line
returns-in_err-line c = rw c.from_residual.ensures (entry-not c.in_err-line.ensures)

pub returns : goal.returns
returns c = entry-put c.in_ok-line.ensures c.put_head-behind_head.ensures c.put_v64-at.ensures c.put_fields.ensures
