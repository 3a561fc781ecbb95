use Rattle.std.proofs.Common.{◌-◌}
use Rattle.table.specs.View.{log_of}
use Rattle.lookups.specs.Objects.{firsts, lasts}
use Rattle.values.specs.Items.{linked, some_object}
use Rattle.values.specs.Pass.{Running}
use Rattle.walk.proofs.chunks.object_values.Given as goal

abbrev pub invariant-loop : goal.invariant-loop
invariant-loop l = Running (linked (some_object (firsts l.t (log_of l.work)) (lasts l.t (log_of l.work)))) l.part l.n 0 (l.n - l.counter) l.here.at
