use Rattle.std.proofs.Common.{arith}
use Rattle.values.specs.RangeLaws.{before-range, behind-first}
use Rattle.values.proofs.references.lies_in.Goals as goal

pub returns-then-n-before : goal.returns-then-n-before
returns-then-n-before c = before-range _ _ _ _ c.wide-before.ensures (omega arith)

pub returns : goal.returns
returns c = behind-first _ _ _ _ c.wide-before.ensures c.wide-end.ensures (omega arith)
