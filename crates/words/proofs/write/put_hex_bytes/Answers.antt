use Rattle.std.proofs.Common.{arith}
use Rattle.lay.specs.Laid.{most}
use Rattle.words.specs.Backwards.{laid-counted, laid-stored}
use Rattle.words.specs.Stored.{hex-bytes-long}
use Rattle.words.proofs.write.put_hex_bytes.Goals as goal

pub returns-then-out-at : goal.returns-then-out-at
unfolding most
returns-then-out-at c = laid-counted (hex-bytes-long c.args.s.now) (omega arith) c.if-out-at.true c.behind.ensures

pub returns-then-n-out : goal.returns-then-n-out
unfolding most
returns-then-n-out c = laid-stored (hex-bytes-long c.args.s.now) (omega arith) (omega arith) c.store_hex_bytes.ensures
