use Rattle.std.proofs.Common.{sym, arith}
use Rattle.words.specs.ReadDecimals.{large, not-large, large-last}
use Rattle.words.proofs.read.too_large.Goals as goal

pub returns-then-v : goal.returns-then-v
returns-then-v c = sym (not-large _ _ (omega arith))

pub returns-then-v-2 : goal.returns-then-v-2
returns-then-v-2 c = sym (large _ _ (omega arith))

pub returns : goal.returns
returns c = sym (large-last _ _ (omega arith))
