use Rattle.numbers.specs.Ruled.{within, beyond}
use Rattle.texts.specs.Told.{refuses}
use Rattle.texts.specs.Chunks.{list-refused, list-long, list-told, tabs-over}
use Rattle.texts.proofs.list_text.Goals as goal

pub returns-in_err-elements : goal.returns-in_err-elements
returns-in_err-elements c = rw c.from_residual.ensures (refuses (list-refused _ _ _ _ (rw c.in_err-elements.was at c.literal.ensures)))

pub returns-then-not-is_small : goal.returns-then-not-is_small
returns-then-not-is_small c = refuses (list-long _ _ _ _ (rw c.in_ok-elements.was at c.literal.ensures) (tabs-over _ c.elements_in-m.ensures c.tabs_left.ensures) (beyond c.is_small.ensures (rw c.if-not-is_small.true)))

pub returns : goal.returns
returns c = list-told _ _ _ _ (rw c.in_ok-elements.was at c.literal.ensures) (tabs-over _ c.elements_in-m.ensures c.tabs_left.ensures) (within c.is_small.ensures (rw c.if-not-is_small.false)) c.put_v64-behind.ensures c.rest_of_line.ensures
