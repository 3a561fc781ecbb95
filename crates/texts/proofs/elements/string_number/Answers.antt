use Rattle.std.proofs.Common.{arith}
use Rattle.texts.specs.Elements.{link-refused, link-taken, link-none, string-there, string-missing}
use Rattle.texts.proofs.elements.string_number.Goals as goal

pub returns-in_err-n : goal.returns-in_err-n
returns-in_err-n c = rw c.from_residual.ensures (link-refused _ _ _ (rw c.in_err-n.was at c.natural.ensures))

pub returns-then-strings-n : goal.returns-then-strings-n
returns-then-strings-n c = link-none _ _ _ _ _ (rw c.in_ok-n.was at c.natural.ensures) (string-missing _ _ (omega arith))

pub returns : goal.returns
returns c = link-taken _ _ _ _ _ (rw c.in_ok-n.was at c.natural.ensures) (string-there _ _ (omega arith))
