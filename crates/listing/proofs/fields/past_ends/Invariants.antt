use Rattle.std.proofs.Common.{◌-◌}
use Rattle.listing.specs.Fields.{Passing}
use Rattle.listing.proofs.fields.past_ends.Given as goal

abbrev pub invariant-loop : goal.invariant-loop
invariant-loop l = Passing l.n l.file l.initial.here.at (l.n - l.counter) l.here.at
