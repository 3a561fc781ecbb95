-- `reader::heads::judged_name` meets its contract. Assumes nothing.
use Rattle.std.proofs.Common.{sym, ◌∙◌}
use borrow.Author.Tests.{not-true}
use Rattle.reader.specs.HeadLaws.{name-bad, string-there, name-placed}
use Rattle.reader.proofs.heads.judged_name.Goals as goal

pub returns-then-not-is_string : goal.returns-then-not-is_string
returns-then-not-is_string c = name-bad c.requires (sym (c.is_string.ensures _ c.requires) ∙ not-true _ c.if-not-is_string.true-raw)

pub type_named-known-requires : goal.type_named-known-requires
type_named-known-requires c = record { holds = c.requires; n_nonzero = string-there c.requires (sym (c.is_string.ensures _ c.requires) ∙ c.if-not-is_string.false) }

pub returns : goal.returns
returns c = name-placed c.requires (sym (c.is_string.ensures _ c.requires) ∙ c.if-not-is_string.false) c.type_named-known.ensures c.placed_name.ensures
