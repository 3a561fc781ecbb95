use Rattle.std.proofs.Common.{◌∷◌, ◌-◌}
use Rattle.paper.specs.File.{element}
use Rattle.paper.specs.Listing.{tab, element_word}
use Rattle.show.specs.Shown.{Showing}
use Rattle.show.proofs.put_others.Given as goal

abbrev pub invariant-loop : goal.invariant-loop
invariant-loop l = Showing (λ s. element s l.e) (λ x. tab ∷ element_word x) l.part l.m l.initial.here.next.at l.initial.out l.at (l.m - l.counter) l.out l.here
