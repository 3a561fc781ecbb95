use Rattle.listing.specs.Fronts.{StringsPrinting}
use Rattle.listing.proofs.fronts.print_strings.Given as goal

abbrev pub invariant-loop-i : goal.invariant-loop-i
invariant-loop-i l = StringsPrinting l.file l.work l.from l.i l.initial.out l.at l.out l.p
