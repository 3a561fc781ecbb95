use Rattle.std.proofs.Common.{sym, arith}
use Rattle.lay.specs.Laid.{most, laid-over}
use Rattle.words.specs.Backwards.{hex-long, laid-stored}
use Rattle.words.proofs.write.put_hex.Goals as goal

pub returns-then-out-at : goal.returns-then-out-at
unfolding most
returns-then-out-at c = laid-over (omega arith) c.if-out-at.true (rw hex-long c.behind.ensures)

pub returns-then-n-out : goal.returns-then-n-out
unfolding most
returns-then-n-out c = laid-stored (sym (hex-long _ _)) (omega arith) (omega arith) c.store_hex.ensures
