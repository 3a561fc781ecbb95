-- `judge::heads::judged_head` meets its contract. Assumes nothing.
use Rattle.std.proofs.Common.{arith}
use Rattle.judge.specs.Taken.{taken, untaken}
use Rattle.judge.specs.HeadLaws.{bad-name, resolved, bad-super, bad-start, bad-count, few-objects, good-head}
use Rattle.judge.proofs.heads.judged_head.Goals as goal

pub returns-in_err-name : goal.returns-in_err-name
returns-in_err-name c = rw c.from_residual.ensures (bad-name c.args.line (omega arith) c.judged_name.ensures (untaken c.in_err-name.ensures.value).1)

pub judged_above-requires : goal.judged_above-requires
judged_above-requires c = record { holds = c.requires; resolved = resolved c.args.line (omega arith) c.judged_name.ensures (taken c.in_ok-name.ensures.value) }

pub returns-in_err-above : goal.returns-in_err-above
returns-in_err-above c = rw c.from_residual-in_err-above.ensures (bad-super c.args.line (omega arith) c.judged_name.ensures (taken c.in_ok-name.ensures.value) c.judged_above.ensures c.in_err-above.was)

pub returns-in_err-start : goal.returns-in_err-start
returns-in_err-start c = rw c.from_residual-in_err-start.ensures (bad-start c.args.line (omega arith) c.judged_name.ensures (taken c.in_ok-name.ensures.value) c.judged_above.ensures c.in_ok-above.was c.judged_start.ensures c.in_err-start.was)

pub returns-in_err-n : goal.returns-in_err-n
returns-in_err-n c = rw c.from_residual-in_err-n.ensures (bad-count c.args.line (omega (arith, c.well_formed)) c.judged_name.ensures (taken c.in_ok-name.ensures.value) c.judged_above.ensures c.in_ok-above.was c.judged_start.ensures c.in_ok-start.was (omega (arith, c.well_formed)) (c.judged_count.ensures.judged _ c.requires) (untaken c.in_err-n.ensures.value).1)

pub overflow_cast-result : goal.overflow_cast-result
overflow_cast-result c = omega (arith, few-objects c.judged_count.ensures (taken c.in_ok-n.ensures.value))

pub returns : goal.returns
returns c = good-head c.args.line (omega (arith, c.well_formed)) c.judged_name.ensures (taken c.in_ok-name.ensures.value) c.judged_above.ensures c.in_ok-above.was c.judged_start.ensures c.in_ok-start.was (omega (arith, c.well_formed)) (c.judged_count.ensures.judged _ c.requires) (taken c.in_ok-n.ensures.value) c.judged_count.ensures.below
