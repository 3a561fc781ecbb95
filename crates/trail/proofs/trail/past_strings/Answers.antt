use Rattle.std.proofs.Common.{arith}
use Rattle.trail.specs.Stages.{strings-not, strings-none, strings-over, strings-past}
use Rattle.trail.proofs.trail.past_strings.Goals as goal

pub returns-then-n-gt1024 : goal.returns-then-n-gt1024
returns-then-n-gt1024 c = strings-not c.past-n.ensures (λ a b. omega arith)

pub returns-then-file-n : goal.returns-then-file-n
returns-then-file-n c = strings-not c.past-n.ensures (λ a b. omega arith)

pub returns-then-n-eq0 : goal.returns-then-n-eq0
returns-then-n-eq0 c = strings-none c.past-n.ensures c.if-n-eq0.true

pub returns-then-file-base : goal.returns-then-file-base
returns-then-file-base c = strings-over c.past-n.ensures c.if-n-eq0.false c.four-last.ensures (λ a. omega arith)

pub returns-then-file-base-2 : goal.returns-then-file-base-2
returns-then-file-base-2 c = strings-over c.past-n.ensures c.if-n-eq0.false c.four-last.ensures (λ a. omega arith)

pub returns : goal.returns
returns c = strings-past c.past-n.ensures c.if-n-eq0.false c.four-last.ensures (omega arith)
