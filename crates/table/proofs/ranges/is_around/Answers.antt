-- `table::ranges::is_around` meets its contract. Assumes nothing.
use Rattle.std.proofs.Common.{sym, ◌∙◌, le-leb}
use borrow.Author.Tests.{not-true, lt-leb}
use Rattle.paper.specs.Rules.{around?}
use Rattle.table.proofs.ranges.is_around.Goals as goal

pub returns-then-not-is_entry : goal.returns-then-not-is_entry
unfolding around?
returns-then-not-is_entry c = simp (sym c.is_entry.ensures ∙ not-true _ c.if-not-is_entry.true-raw)

pub returns-then-start-r : goal.returns-then-start-r
unfolding around?
returns-then-start-r c = simp (sym c.is_entry.ensures ∙ c.if-not-is_entry.false, lt-leb _ _ c.if-start-r.true)

pub returns : goal.returns
unfolding around?
returns c = simp (sym c.is_entry.ensures ∙ c.if-not-is_entry.false, le-leb _ _ c.if-start-r.false)
