use Rattle.std.proofs.Common.{◌≡◌, drop}
use Rattle.paper.specs.Lists.{any}
use Rattle.laws.specs.Room.{empty_field?}
use Rattle.table.specs.View.{flds_of}
use Rattle.listing.proofs.room.has_empty.Given as goal

abbrev pub invariant-loop-i : goal.invariant-loop-i
invariant-loop-i l = any empty_field? (flds_of l.table) ≡ any empty_field? (drop l.i (flds_of l.table))
