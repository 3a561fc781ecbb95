use Rattle.std.proofs.Common.{arith}
use Rattle.paper.specs.Listing.{ascii}
use Rattle.parse.specs.StringLaws.{all-bytes, string-not, string-open, string-got}
use Rattle.parse.proofs.string_line.Goals as goal

pub returns-in_err-first : goal.returns-in_err-first
unfolding ascii
returns-in_err-first c = rw c.from_residual.ensures (string-not c.in_err-first.ensures)

pub returns-in_err-next : goal.returns-in_err-next
unfolding ascii
returns-in_err-next c = rw c.from_residual-in_err-next.ensures (string-open c.in_ok-first.ensures c.hex_end-behind.ensures c.in_err-next.ensures)

pub returns : goal.returns
unfolding ascii
returns c = string-got c.in_ok-first.ensures c.hex_end-behind.ensures (all-bytes c.args.t.now (λ i. omega (arith, c.shared_slice_known-1.given i))) c.in_ok-next.ensures
