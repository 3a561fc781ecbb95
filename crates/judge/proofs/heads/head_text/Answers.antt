-- `judge::heads::head_text` meets its contract. Assumes nothing.
use Rattle.judge.specs.HeadLaws.{bad-line, bad-head, text-placed, text-entered}
use Rattle.judge.proofs.heads.head_text.Goals as goal

pub returns-in_err-line : goal.returns-in_err-line
returns-in_err-line c = rw c.from_residual.ensures (bad-line c.requires.holds c.args.p.at c.type_line.ensures c.in_err-line.was)

pub returns-in_err-top : goal.returns-in_err-top
returns-in_err-top c = rw c.from_residual-in_err-top.ensures (bad-head c.requires.holds c.args.p.at c.type_line.ensures c.in_ok-line.was c.judged_head.ensures c.in_err-top.was)

pub enter_top-requires : goal.enter_top-requires
enter_top-requires c = record { holds = c.requires.holds; sound = c.requires.sound; placed = text-placed c.requires.holds c.args.p.at c.type_line.ensures c.in_ok-line.was c.judged_head.ensures c.in_ok-top.was }

pub returns : goal.returns
returns c = text-entered c.requires.holds c.args.p.at c.type_line.ensures c.in_ok-line.was c.judged_head.ensures c.in_ok-top.was c.enter_top.ensures
