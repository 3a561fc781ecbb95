use Rattle.std.proofs.Common.{◌-◌}
use Rattle.paper.specs.Reader.{repeat}
use Rattle.paper.specs.File.{element}
use Rattle.paper.specs.Listing.{value_line}
use Rattle.show.specs.Shown.{Showing}
use Rattle.show.proofs.put_other_lines.Given as goal

abbrev pub invariant-loop : goal.invariant-loop
invariant-loop l = Showing (λ s. repeat 1 (element s l.e)) value_line l.part l.n 0 l.initial.out l.at (l.n - l.counter) l.out l.here
