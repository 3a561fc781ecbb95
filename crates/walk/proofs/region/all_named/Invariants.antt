-- `walk::region::all_named` meets its contract. The invariant: the kinds that are left give the whole. Assumes nothing.
use Rattle.std.proofs.Common.{◌+◌, ◌-◌}
use Rattle.reader.specs.Kinds.{named?}
use Rattle.lookups.specs.Bytes.{Asked}
use Rattle.walk.proofs.region.all_named.Given as goal

abbrev pub invariant-loop : goal.invariant-loop
invariant-loop l = Asked (named? l.named) l.count l.packed (l.count + 1 - l.counter) l.rest
