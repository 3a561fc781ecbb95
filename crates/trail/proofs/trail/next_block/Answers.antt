use Rattle.std.proofs.Common.{arith}
use Rattle.trail.specs.Stages.{block-not, block-past}
use Rattle.trail.proofs.trail.next_block.Goals as goal

pub returns-then-j-ge32 : goal.returns-then-j-ge32
returns-then-j-ge32 c = block-not (λ a b d e. omega arith)

pub returns-then-t-gt1024 : goal.returns-then-t-gt1024
returns-then-t-gt1024 c = block-not (λ a b d e. omega arith)

pub returns-then-file-t : goal.returns-then-file-t
returns-then-file-t c = block-not (λ a b d e. omega arith)

pub returns-then-file-t-2 : goal.returns-then-file-t-2
returns-then-file-t-2 c = block-not (λ a b d e. omega arith)

pub returns : goal.returns
returns c = block-past c.past_strings-strings.ensures c.past-n.ensures
