use Rattle.texts.specs.Told.{refuses}
use Rattle.texts.specs.Chunks.{told-as, value-refused, value_as}
use Rattle.texts.proofs.value_text.Goals as goal

pub returns-in_err-elements : goal.returns-in_err-elements
returns-in_err-elements c = rw c.from_residual.ensures (refuses (value-refused _ _ _ _ _ (rw c.in_err-elements.was at c.literal.ensures)))

pub returns : goal.returns
returns c = told-as (value_as _ _ _ _ _ (rw c.in_ok-elements.was at c.literal.ensures)) c.rest_of_line.ensures
