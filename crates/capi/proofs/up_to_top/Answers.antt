-- `capi::up_to_top` meets its contract: what fits is converted, and the top stands for what does not. Assumes nothing.
use Rattle.std.proofs.Common.{◌∙◌}
use mir.Syntax.{w64}
use mir.Facts.{to_z-of_z}
use Rattle.capi.proofs.Minus.{capped}
use Rattle.capi.proofs.up_to_top.Goals as goal

pub returns : goal.returns
returns c = to_z-of_z {w = w64} (record { sfits = c.unwrap_or.type_inv }) ∙ c.unwrap_or.ensures ∙ capped c.args.n c.try_from.result c.try_from.ensures
