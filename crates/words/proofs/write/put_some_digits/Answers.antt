use Rattle.std.proofs.Common.{arith}
use Rattle.lay.specs.Laid.{most, laid_as}
use Rattle.words.specs.Backwards.{laid-counted, local-taken, local-long}
use Rattle.words.proofs.write.put_some_digits.Goals as goal

pub returns-then-out-at : goal.returns-then-out-at
unfolding most
returns-then-out-at c = laid-counted c.digits_of.ensures (omega arith) c.if-out-at.true c.behind.ensures

pub slice_bounds-put_bytes-end : goal.slice_bounds-put_bytes-end
slice_bounds-put_bytes-end c = local-long c.store_decimal-n.result c.args.x c.store_decimal-n.ensures.0.bytes (omega (arith, c.store_decimal-n.ensures.0.next)) (omega arith)

pub returns : goal.returns
returns c = laid_as c.put_bytes.ensures (local-taken c.store_decimal-n.result c.args.x c.store_decimal-n.ensures.0.bytes (omega (arith, c.store_decimal-n.ensures.0.next)) (omega arith))
