use Rattle.std.proofs.Common.{arith, rules}
use Rattle.values.specs.Listed.{others-linked}
use Rattle.values.specs.Items.{item-v64}
use Rattle.values.specs.Spans.{item-1, item-2, item-4, item-8}
use Rattle.values.specs.Quick.{quick-none, quick-fixed, quick-any, quick-item, quick-text}
use Rattle.values.proofs.maps.bounds_of.Goals as goal

pub linked_bounds-requires : goal.linked_bounds-requires
linked_bounds-requires c = search (rules, others-linked c.args.k c.requires)

pub returns-in-5 : goal.returns-in-5
returns-in-5 c pools = quick-none _ (omega (arith, c.wide_bounds-in-5.ensures))

pub returns-in-7 : goal.returns-in-7
returns-in-7 c pools = quick-item _ _ _ _ _ _ (item-1 _ pools c.in-7.is) (quick-fixed 1 (omega arith) c.wide_bounds.ensures)

pub returns-in-8 : goal.returns-in-8
returns-in-8 c pools = quick-item _ _ _ _ _ _ (item-2 _ pools c.in-8.is) (quick-fixed 2 (omega arith) c.wide_bounds-in-8.ensures)

pub returns-in-9 : goal.returns-in-9
returns-in-9 c pools = quick-item _ _ _ _ _ _ (item-4 _ pools c.in-9.is) (quick-fixed 4 (omega arith) c.wide_bounds-in-9.ensures)

pub returns-in-10 : goal.returns-in-10
returns-in-10 c pools = quick-item _ _ _ _ _ _ (item-8 _ pools c.in-10.is) (quick-fixed 8 (omega arith) c.wide_bounds-in-10.ensures)

pub returns-in-11 : goal.returns-in-11
returns-in-11 c pools = quick-item _ _ _ _ _ _ (λ a b. item-v64 _ pools a b _ c.in-11.is) (quick-any c.number_bounds.ensures.0)

pub returns-in-14 : goal.returns-in-14
returns-in-14 c pools = quick-text _ _ _ _ _ _ c.in-14.is (c.string_bounds.ensures pools)

pub returns-in_default : goal.returns-in_default
returns-in_default c = c.linked_bounds.ensures _
