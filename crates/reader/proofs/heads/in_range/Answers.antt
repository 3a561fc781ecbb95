-- `reader::heads::in_range` meets its contract. Assumes nothing.
use Rattle.std.proofs.Common.{sym, ◌∙◌}
use borrow.Author.Tests.{not-true}
use Rattle.table.specs.View.{view}
use Rattle.reader.specs.CountLaws.{range-base, range_none, range-out, range-in}
use Rattle.reader.proofs.heads.in_range.Goals as goal

pub returns-then-up-eq0 : goal.returns-then-up-eq0
returns-then-up-eq0 c = λ f. range-base (view f c.args.work.now) _ _ _ c.if-up-eq0.true

pub returns-then-n-eq0 : goal.returns-then-n-eq0
returns-then-n-eq0 c = λ f. range_none (view f c.args.work.now) _ _ _ c.if-up-eq0.false c.if-n-eq0.true

pub returns-then-not-around : goal.returns-then-not-around
returns-then-not-around c = λ f. range-out (view f c.args.work.now) _ _ _ c.if-up-eq0.false c.if-n-eq0.false (rw c.block-b.ensures at (sym c.around.ensures ∙ not-true _ c.if-not-around.true-raw))

pub returns : goal.returns
returns c = λ f. c.clear_of_siblings.ensures ∙ rw c.block-b.ensures (range-in (view f c.args.work.now) _ _ _ c.if-up-eq0.false c.if-n-eq0.false (rw c.block-b.ensures at (sym c.around.ensures ∙ c.if-not-around.false)))
