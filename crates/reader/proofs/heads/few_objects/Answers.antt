-- `reader::heads::few_objects` meets its contract. Assumes nothing.
use Rattle.std.proofs.Common.{◌∙◌, ◌≤◌, arith}
use Rattle.paper.specs.Ledger.{objects_in_all}
use Rattle.paper.specs.Bounds.{most_objects}
use Rattle.table.specs.View.{view}
use Rattle.numbers.specs.Ruled.{within, beyond}
use Rattle.reader.specs.CountLaws.{few-big, few-below, few-base, given-up, given-none}
use Rattle.reader.proofs.heads.few_objects.Goals as goal

pub returns-then-not-is_small : goal.returns-then-not-is_small
returns-then-not-is_small c = λ f. few-big (view f c.args.work.now) _ _ (beyond c.is_small.ensures c.if-not-is_small.true-raw)

pub returns-then-up-ne0 : goal.returns-then-up-ne0
returns-then-up-ne0 c = λ f. few-below (view f c.args.work.now) _ _ (within c.is_small.ensures c.if-not-is_small.false-raw) (given-up _ c.if-up-ne0.true)

pub overflow_add-objects_in_all : goal.overflow_add-objects_in_all
overflow_add-objects_in_all c = let le : c.args.n ≤ most_objects = within c.is_small.ensures c.if-not-is_small.false-raw in omega arith

pub returns : goal.returns
unfolding objects_in_all
returns c = λ f. c.is_small-2.ensures ∙ rw c.objects_in_all.ensures.value (few-base (view f c.args.work.now) _ _ (within c.is_small.ensures c.if-not-is_small.false-raw) (given-none _ c.if-up-ne0.false))
