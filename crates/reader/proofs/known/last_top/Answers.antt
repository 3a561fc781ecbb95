use Rattle.std.proofs.Common.{refl}
use Rattle.reader.proofs.known.last_top.Goals as goal

pub returns : goal.returns
returns c = record { number = c.from.ensures; fresh = refl; above = refl; up = c.super_of-up.ensures; row = c.range_at-last.result; last = rw c.ranges-2.ensures at c.range_at-last.ensures.result_value; typ = refl; start = refl; count = refl }
