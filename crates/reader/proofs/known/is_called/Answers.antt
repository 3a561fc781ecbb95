use Rattle.std.proofs.Common.{arith, eqb-true}
use mathlib.Core.Bool.{false≢true}
use Rattle.reader.specs.KnownHeads.{called}
use Rattle.reader.proofs.known.is_called.Goals as goal

pub returns-then-types-t : goal.returns-then-types-t
returns-then-types-t c = λ e. absurd (false≢true e)

pub returns-then-row-name : goal.returns-then-row-name
returns-then-row-name c = λ e. absurd (false≢true e)

pub returns : goal.returns
returns c = λ e. called (omega arith) c.string_at-name.ensures c.type_at-row.ensures.named (omega arith) (eqb-true _ _ e)
