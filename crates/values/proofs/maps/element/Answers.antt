use Rattle.std.proofs.Common.{arith, rules}
use Rattle.paper.specs.Numbers.{fixed, v64}
use Rattle.values.specs.Listed.{others-linked}
use Rattle.values.specs.Pass.{read-passed}
use Rattle.values.specs.Items.{item-annotation, item-bool, item-v64, item-string}
use Rattle.values.specs.Spans.{item-direct, one-passed, item-1, item-2, item-4, item-8}
use Rattle.values.proofs.maps.element.Goals as goal

pub linked_element-requires : goal.linked_element-requires
linked_element-requires c = search (rules, others-linked c.args.k c.requires.0)

pub returns-in-5 : goal.returns-in-5
returns-in-5 c = item-direct _ _ _ _ _ _ _ (λ a b. item-annotation _ _ a b _ c.in-5.is) (one-passed _ c.annotations.ensures)

pub returns-in-6 : goal.returns-in-6
returns-in-6 c = item-direct _ _ _ _ _ _ _ (λ a b. item-bool _ _ a b _ c.in-6.is) (one-passed _ c.bools.ensures)

pub returns-in-7 : goal.returns-in-7
returns-in-7 c = item-direct _ _ _ _ _ _ (fixed 1) (item-1 _ _ c.in-7.is) (read-passed (c.be.ensures.reads (omega arith)))

pub returns-in-8 : goal.returns-in-8
returns-in-8 c = item-direct _ _ _ _ _ _ (fixed 2) (item-2 _ _ c.in-8.is) (read-passed (c.be-in-8.ensures.reads (omega arith)))

pub returns-in-9 : goal.returns-in-9
returns-in-9 c = item-direct _ _ _ _ _ _ (fixed 4) (item-4 _ _ c.in-9.is) (read-passed (c.be-in-9.ensures.reads (omega arith)))

pub returns-in-10 : goal.returns-in-10
returns-in-10 c = item-direct _ _ _ _ _ _ (fixed 8) (item-8 _ _ c.in-10.is) (read-passed (c.be-in-10.ensures.reads (omega arith)))

pub returns-in-11 : goal.returns-in-11
returns-in-11 c = item-direct _ _ _ _ _ _ v64 (λ a b. item-v64 _ _ a b _ c.in-11.is) (read-passed c.v64.ensures)

pub returns-in-14 : goal.returns-in-14
returns-in-14 c = item-direct _ _ _ _ _ _ _ (λ a b. item-string _ _ a b _ c.in-14.is) (read-passed c.number_up_to.ensures)

pub returns-in_default : goal.returns-in_default
returns-in_default c = c.linked_element.ensures _ _
