use Rattle.std.proofs.Common.{arith}
use Rattle.make.specs.Made.{answer-long, answer-told}
use Rattle.make.proofs.answer.Goals as goal

pub returns-then-came : goal.returns-then-came
returns-then-came c = answer-long _ _ (omega arith) (omega arith) _ (omega arith) c.put_refused.ensures

pub returns : goal.returns
returns c = answer-told _ _ (omega arith) (omega arith) _ (omega arith) _ c.build-a.ensures c.replied.ensures
