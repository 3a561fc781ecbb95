use Rattle.paper.specs.Listing.{ascii}
use Rattle.fronts.specs.Maps.{found-no-line, found-no-kind, found-no-types, found-there}
use Rattle.fronts.proofs.maps.map_kinds.Goals as goal

pub returns-in_err-word : goal.returns-in_err-word
unfolding ascii
returns-in_err-word c = rw c.from_residual.ensures (found-no-line c.in_err-word.ensures)

pub returns-in_err-types : goal.returns-in_err-types
unfolding ascii
returns-in_err-types c = rw c.from_residual-in_err-types.ensures (found-no-kind c.in_ok-word.ensures c.in_err-types.ensures)

pub returns-in_err-kinds : goal.returns-in_err-kinds
unfolding ascii
returns-in_err-kinds c = rw c.from_residual-in_err-kinds.ensures (found-no-types c.in_ok-word.ensures c.in_ok-types.ensures c.in_err-kinds.ensures)

pub returns : goal.returns
unfolding ascii
returns c = found-there c.in_ok-word.ensures c.in_ok-types.ensures c.in_ok-kinds.ensures
