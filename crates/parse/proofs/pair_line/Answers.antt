use Rattle.paper.specs.Listing.{ascii}
use Rattle.parse.specs.LineLaws.{pair-not, pair-two}
use Rattle.parse.proofs.pair_line.Goals as goal

pub returns-in_err-numbers : goal.returns-in_err-numbers
unfolding ascii
returns-in_err-numbers c = rw c.from_residual.ensures (pair-not _ _ c.in_err-numbers.ensures)

pub returns : goal.returns
unfolding ascii
returns c = pair-two _ _ c.in_ok-numbers.ensures c.last_two.ensures
