use Rattle.numbers.specs.Ruled.{within, beyond}
use Rattle.texts.specs.MapWays.{size-no-tab, size-no-word, size-large, size-taken}
use Rattle.texts.proofs.maps.size_text.Goals as goal

pub returns-in_err-word : goal.returns-in_err-word
returns-in_err-word c = rw c.from_residual.ensures (size-no-tab _ _ (rw c.in_err-word.was at c.byte.ensures))

pub returns-in_err-n : goal.returns-in_err-n
returns-in_err-n c = rw c.from_residual-in_err-n.ensures (size-no-word _ _ (rw c.in_ok-word.was at c.byte.ensures) (rw c.in_err-n.was at c.natural.ensures))

pub returns-then-not-is_small : goal.returns-then-not-is_small
returns-then-not-is_small c = size-large _ _ (rw c.in_ok-word.was at c.byte.ensures) (rw c.in_ok-n.was at c.natural.ensures) (beyond c.is_small.ensures (rw c.if-not-is_small.true))

pub returns : goal.returns
returns c = size-taken _ _ (rw c.in_ok-word.was at c.byte.ensures) (rw c.in_ok-n.was at c.natural.ensures) (within c.is_small.ensures (rw c.if-not-is_small.false))
