-- `trail::texts::same_bytes` meets its contract: the library's equality goes over the pairs. Assumes nothing.
use Rattle.std.proofs.Common.{◌∙◌}
use Rattle.table.specs.NameLaws.{same-pairs}
use Rattle.trail.proofs.texts.same_bytes.Goals as goal

pub returns : goal.returns
returns c = c.eq.ensures ∙ same-pairs c.args.a.now c.args.b.now
