use Rattle.std.proofs.Common.{◌-◌, ◌∷◌}
use Rattle.paper.specs.Numbers.{v64}
use Rattle.paper.specs.Listing.{comma, decimal}
use Rattle.show.specs.Shown.{Showing}
use Rattle.listing.proofs.maps.put_kinds.Given as goal

abbrev pub invariant-loop : goal.invariant-loop
invariant-loop l = Showing (λ s. v64) (λ k. comma ∷ decimal k) l.file l.n l.initial.here.next.at l.initial.out l.at (l.n - l.counter) l.out l.here
