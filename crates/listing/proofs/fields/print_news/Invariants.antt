use Rattle.std.proofs.Common.{◌-◌}
use Rattle.listing.specs.Fields.{NewsPrinting}
use Rattle.listing.proofs.fields.print_news.Given as goal

abbrev pub invariant-loop : goal.invariant-loop
invariant-loop l = NewsPrinting l.file l.count l.initial.here.at l.initial.out l.at (l.count - l.counter) l.here.at l.out l.p
