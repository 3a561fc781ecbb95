use Rattle.paper.specs.Listing.{hex_digits}
use Rattle.lay.specs.Laid.{Leads}
use Rattle.words.proofs.write.put_some_hex.Given as goal

abbrev pub invariant-loop-k : goal.invariant-loop-k
invariant-loop-k l = Leads l.initial.out l.at (hex_digits l.n l.x) l.out l.p (hex_digits l.k l.x)
