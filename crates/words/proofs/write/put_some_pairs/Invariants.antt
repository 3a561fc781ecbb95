use Rattle.std.proofs.Common.{drop}
use Rattle.paper.specs.Listing.{hex}
use Rattle.lay.specs.Laid.{Leads}
use Rattle.words.proofs.write.put_some_pairs.Given as goal

abbrev pub invariant-loop-b : goal.invariant-loop-b
invariant-loop-b l = Leads l.initial.out l.at (hex l.s) l.out l.p (hex (drop l.b-index l.s))
