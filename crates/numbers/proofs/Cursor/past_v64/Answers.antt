use Rattle.std.proofs.Common.{sym, arith}
use Rattle.numbers.specs.Cursors.{handed, read_past}
use Rattle.numbers.proofs.V64Laws.{none-there, one-there}
use Rattle.numbers.proofs.Cursor.past_v64.Goals as goal

pub returns-then-s-at : goal.returns-then-s-at
returns-then-s-at c = read_past _ (none-there _ _ c.if-s-at.true)

pub returns-then-b-lt128 : goal.returns-then-b-lt128
returns-then-b-lt128 c = read_past _ (one-there _ _ _ (omega arith) c.wide-b.ensures.0 c.if-b-lt128.true)

pub returns-then-s-at-lt9 : goal.returns-then-s-at-lt9
returns-then-s-at-lt9 c = read_past _ (c.in_ok-next.ensures)

pub returns : goal.returns
returns c = record { says = sym c.pass_v64.ensures.0.says; inside = λ h. c.pass_v64.ensures.0.inside }

pub returns-in_err-next : goal.returns-in_err-next
returns-in_err-next c = rw (handed c.from_residual.ensures.1) (read_past _ c.in_err-next.ensures)
