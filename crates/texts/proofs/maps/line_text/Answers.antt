use Rattle.std.proofs.Common.{refl, ◌∙◌}
use Rattle.texts.specs.Told.{takes, refuses}
use Rattle.texts.specs.Chunks.{told-as, rest-bad, rest-open, rest-lays}
use Rattle.texts.specs.MapLines.{line_refused, line_as}
use Rattle.texts.proofs.maps.line_text.Goals as goal

pub returns-in_err-words : goal.returns-in_err-words
returns-in_err-words c = rw c.from_residual.ensures (refuses (line_refused _ _ _ _ _ _ _ _ (rw c.in_err-words.was at c.literal.ensures)))

pub returns-in_err-k : goal.returns-in_err-k
returns-in_err-k c = rw c.from_residual-in_err-k.ensures (refuses (line_as _ _ _ _ _ _ _ _ (rw c.in_ok-words.was at c.literal.ensures) ∙ rest-bad c.map_text.ensures c.in_err-k.was))

pub returns-in_err-next : goal.returns-in_err-next
returns-in_err-next c = rw c.from_residual-in_err-next.ensures (refuses (line_as _ _ _ _ _ _ _ _ (rw c.in_ok-words.was at c.literal.ensures) ∙ rest-open c.map_text.ensures c.in_ok-k.was (rw c.in_err-next.was at c.byte.ensures)))

pub returns : goal.returns
returns c = told-as (line_as _ _ _ _ _ _ _ _ (rw c.in_ok-words.was at c.literal.ensures)) (takes _ (rest-lays c.map_text.ensures c.in_ok-k.was (rw c.in_ok-next.was at c.byte.ensures) _ refl refl))
