use Rattle.std.proofs.Common.{arith}
use Rattle.trail.specs.Texts.{seek-on, seek_found}
use Rattle.trail.proofs.texts.string_at.Goals as goal

pub returns-then-k-c : goal.returns-then-k-c
returns-then-k-c c = seek_found c.loop-i.invariant.0 c.loop-i.invariant.1 c.loop-i-test.true (omega arith) c.past-c.ensures c.if-k-c.true c.string_in.ensures

pub loop-i-preserved : goal.loop-i-preserved
loop-i-preserved c = (seek-on c.loop-i.invariant.0 c.loop-i.invariant.1 c.loop-i-test.true (omega arith) c.past-c.ensures (omega arith), c.loop-i.invariant.1, omega arith)
