use Rattle.std.proofs.Common.{arith}
use Rattle.reader.specs.KindLaws.{named-low, named-high, named-loose}
use Rattle.reader.proofs.kinds.is_named.Goals as goal

pub returns-then-k-lt32 : goal.returns-then-k-lt32
returns-then-k-lt32 c = named-low _ _ _ c.if-k-lt32.true

pub returns-then-strict : goal.returns-then-strict
returns-then-strict c = named-high _ _ _ c.if-strict.true (omega arith)

pub returns : goal.returns
returns c = named-loose _ _ _ c.if-strict.false
