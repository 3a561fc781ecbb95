use Rattle.std.proofs.Common.{◌∙◌, eqb-true}
use Rattle.words.specs.Blocks.{glyph-value}
use Rattle.words.proofs.read.is_hex.Goals as goal

pub returns : goal.returns
returns c = λ yes. glyph-value _ c.value_of-v.result c.value_of-v.ensures.1 (eqb-true _ _ yes) ∙ c.value_of-v.ensures.0
