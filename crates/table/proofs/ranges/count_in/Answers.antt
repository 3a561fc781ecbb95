-- `table::ranges::count_in` meets its contract. Assumes nothing.
use Rattle.std.proofs.Common.{sym, arith}
use Rattle.table.specs.Tells.{no-count}
use Rattle.table.proofs.ranges.count_in.Goals as goal

pub returns-then-none_from : goal.returns-then-none_from
returns-then-none_from c = record { value = sym (no-count c.args.work.now c.args.b c.args.t (c.none_from.ensures c.if-none_from.true)); upper_bound = omega arith }
