use Rattle.std.proofs.Common.{◌≡◌, drop}
use Rattle.paper.specs.Lists.{all}
use Rattle.table.specs.View.{flds_of}
use Rattle.lookups.specs.Named.{unnamed_field?}
use Rattle.lookups.proofs.named.all_unnamed.Given as goal

abbrev pub invariant-loop-i : goal.invariant-loop-i
invariant-loop-i l = all unnamed_field? (flds_of l.work) ≡ all unnamed_field? (drop l.i (flds_of l.work))
