-- `judge::fields::news_text` meets its contract. Assumes nothing.
use Rattle.std.proofs.Common.{arith}
use Rattle.judge.specs.FieldsNew.{news-begin, news-bad, news-next, news-done}
use Rattle.judge.proofs.fields.news_text.Goals as goal

pub loop-init : goal.loop-init
loop-init c = news-begin c.requires.holds c.requires.fact (omega arith) c.requires.count_bound _ _

pub new_text-requires : goal.new_text-requires
new_text-requires c = record { holds = c.loop.invariant.holds; fact = c.loop.invariant.still_open; work_bound = omega (arith, c.loop.invariant.room) }

pub returns-in_err-at : goal.returns-in_err-at
returns-in_err-at c = rw c.from_residual.ensures (news-bad c.loop.invariant (omega arith) c.new_text.ensures c.in_err-at.was)

pub loop-preserved : goal.loop-preserved
loop-preserved c = news-next c.loop.invariant (omega arith) c.new_text.ensures (omega arith) c.in_ok-at.was c.new_text.auto.work

pub returns : goal.returns
returns c = news-done c.loop.invariant (omega arith)
