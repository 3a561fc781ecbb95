use Rattle.paper.specs.Listing.{ascii, line, old_line}
use Rattle.fronts.specs.Puts.{old-put, line-put, no-put}
use Rattle.fronts.proofs.put_field.Goals as goal

pub returns-in-Some : goal.returns-in-Some
unfolding ascii line old_line
returns-in-Some c = old-put _ _ c.next_end-ends.ensures _ c.in-Some.ensures c.put_v64-at.ensures

pub returns-in_err-line : goal.returns-in_err-line
unfolding ascii line old_line
returns-in_err-line c = rw c.from_residual.ensures (no-put c.in_default.ensures c.in_err-line.ensures)

pub returns : goal.returns
unfolding ascii line old_line
returns c = line-put _ _ c.next_end-ends.ensures _ c.in_default.ensures c.in_ok-line.ensures c.put_line-at.ensures
