use Rattle.std.proofs.Common.{refl}
use Rattle.texts.specs.Told.{takes, refuses}
use Rattle.texts.specs.Chunks.{rest-bad, rest-open, rest-lays}
use Rattle.texts.proofs.rest_of_line.Goals as goal

pub returns-in_err-k : goal.returns-in_err-k
returns-in_err-k c = rw c.from_residual.ensures (refuses (rest-bad c.next_elements.ensures c.in_err-k.was))

pub returns-in_err-next : goal.returns-in_err-next
returns-in_err-next c = rw c.from_residual-in_err-next.ensures (refuses (rest-open c.next_elements.ensures c.in_ok-k.was (rw c.in_err-next.was at c.byte.ensures)))

pub returns : goal.returns
returns c = takes _ (rest-lays c.next_elements.ensures c.in_ok-k.was (rw c.in_ok-next.was at c.byte.ensures) _ refl refl)
