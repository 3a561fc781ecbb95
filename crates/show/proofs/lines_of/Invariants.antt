use Rattle.std.proofs.Common.{◌-◌, List, ℕ}
use Rattle.paper.specs.Reader.{Reader}
use Rattle.paper.specs.Ledger.{State, Element}
use Rattle.paper.specs.Listing.{value_line}
use Rattle.show.specs.Shown.{Showing, Lays}
use Rattle.show.proofs.lines_of.Given as goal

abbrev pub invariant-loop : goal.invariant-loop
invariant-loop g l =
    goal.F-IsAlwaysCallable g l.step
    × ((r : State → Reader (List Element)) (f : List ℕ) → Lays (goal.F-post g l.step) r value_line f → Showing r value_line f l.n 0 l.initial.out l.at (l.n - l.counter) l.out l.here)
