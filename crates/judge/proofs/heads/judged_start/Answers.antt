-- `judge::heads::judged_start` meets its contract. Assumes nothing.
use Rattle.std.proofs.Common.{arith}
use Rattle.numbers.specs.Ruled.{within, beyond}
use Rattle.reader.specs.CountLaws.{given-up, given-none}
use Rattle.judge.specs.HeadLaws.{start-lacks, start_none, start-stray, start-big, start_small, small-fits}
use Rattle.judge.proofs.heads.judged_start.Goals as goal

pub returns-then-up-ne0 : goal.returns-then-up-ne0
returns-then-up-ne0 c = start-lacks (given-up _ c.if-up-ne0.true) c.in-None.is

pub returns-then-up-eq0 : goal.returns-then-up-eq0
returns-then-up-eq0 c = start-stray c.in-Some.is (given-none _ c.if-up-eq0.true)

pub returns-then-not-is_small : goal.returns-then-not-is_small
returns-then-not-is_small c = start-big c.in-Some.is (given-up _ c.if-up-eq0.false) (omega arith) (beyond c.is_small.ensures c.if-not-is_small.true-raw)

pub overflow_cast-result : goal.overflow_cast-result
overflow_cast-result c = record { fits = small-fits (within c.is_small.ensures c.if-not-is_small.false-raw) }

pub returns-else-up-ne0 : goal.returns-else-up-ne0
returns-else-up-ne0 c = start_none (given-none _ c.if-up-ne0.false) c.in-None.is

pub returns-else-not-is_small : goal.returns-else-not-is_small
returns-else-not-is_small c = start_small c.in-Some.is (given-up _ c.if-up-eq0.false) (omega arith) (within c.is_small.ensures c.if-not-is_small.false-raw)
