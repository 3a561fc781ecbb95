-- `table::names::first_long` meets its contract. Assumes nothing.
use Rattle.std.proofs.Common.{◌∙◌, arith}
use Rattle.table.specs.NameLaws.{shorter-on}
use Rattle.table.proofs.names.first_long.Goals as goal

pub loop-i-preserved : goal.loop-i-preserved
loop-i-preserved c = shorter-on (omega arith) c.type_at-row.ensures.named (λ q. c.if-length_of-n.false (c.length_of.ensures ∙ q)) c.loop-i.invariant
