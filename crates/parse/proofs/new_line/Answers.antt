use Rattle.paper.specs.Listing.{ascii}
use Rattle.parse.specs.NewLaws.{new-not, new-no-kind, new-no-tab, new-no-name, new-got}
use Rattle.parse.proofs.new_line.Goals as goal

pub returns-in_err-first : goal.returns-in_err-first
unfolding ascii
returns-in_err-first c = rw c.from_residual.ensures (new-not _ _ c.in_err-first.ensures)

pub returns-in_err-kind : goal.returns-in_err-kind
unfolding ascii
returns-in_err-kind c = rw c.from_residual-in_err-kind.ensures (new-no-kind _ _ c.in_ok-first.ensures c.in_err-kind.ensures)

pub returns-in_err-second : goal.returns-in_err-second
unfolding ascii
returns-in_err-second c = rw c.from_residual-in_err-second.ensures (new-no-tab _ _ c.in_ok-first.ensures c.in_ok-kind.ensures c.in_err-second.ensures)

pub returns-in_err-name : goal.returns-in_err-name
unfolding ascii
returns-in_err-name c = rw c.from_residual-in_err-name.ensures (new-no-name _ _ c.in_ok-first.ensures c.in_ok-kind.ensures c.in_ok-second.ensures c.in_err-name.ensures)

pub returns : goal.returns
unfolding ascii
returns c = new-got _ _ c.in_ok-first.ensures c.in_ok-kind.ensures c.in_ok-second.ensures c.in_ok-name.ensures
