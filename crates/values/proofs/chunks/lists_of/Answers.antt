-- `values::chunks::lists_of` meets its contract. Assumes nothing.
use Rattle.std.proofs.Common.{ap, sym, ◌∙◌, arith, rules}
use Rattle.paper.specs.Numbers.{fixed}
use Rattle.values.specs.Listed.{Fixed, listed-low, listed-object, other-single}
use Rattle.values.specs.Items.{item-annotation, item-bool, item-v64, item-string, item-object, item-fixed}
use Rattle.values.specs.Chunks.{lists-by}
use Rattle.values.proofs.chunks.lists_of.Goals as goal

pub returns-in-5 : goal.returns-in-5
returns-in-5 c = lists-by _ (item-annotation _ _ _ _ _ c.in-5.is) (c.lists_by.ensures _ (λ b m r said. search rules))

pub returns-in-6 : goal.returns-in-6
returns-in-6 c = lists-by _ (item-bool _ _ _ _ _ c.in-6.is) (c.lists_by-in-6.ensures _ (λ b m r said. search rules))

pub returns-in-7-to-10 : goal.returns-in-7-to-10
returns-in-7-to-10 c = let is : Fixed c.args.e = record { low = omega arith; high = omega arith; not-v64 = λ q. omega arith } in
    lists-by _ (item-fixed _ _ _ _ _ is ∙ ap fixed (sym c.width-width.ensures.0)) (c.lists_by-in-7-to-10.ensures _ (λ b m r said. search rules))

pub returns-in-11 : goal.returns-in-11
returns-in-11 c = lists-by _ (item-v64 _ _ _ _ _ c.in-11.is) (c.lists_by-in-11.ensures _ (λ b m r said. search rules))

pub returns-in-14 : goal.returns-in-14
returns-in-14 c = lists-by _ (item-string _ _ _ _ _ c.in-14.is) (c.lists_by-in-14.ensures _ (λ b m r said. search rules))

pub returns-in-32-to-18446744073709551615 : goal.returns-in-32-to-18446744073709551615
returns-in-32-to-18446744073709551615 c = lists-by _ (item-object _ _ _ _ _ (omega arith)) (c.lists_by-in-32-to-18446744073709551615.ensures _ (λ b m r said. search rules))

pub returns-in-0-to-4 : goal.returns-in-0-to-4
returns-in-0-to-4 c = absurd (omega (arith, listed-low c.args.e (other-single c.args.e c.requires (λ q. omega arith))))

pub returns-in-0-to-4-2 : goal.returns-in-0-to-4-2
returns-in-0-to-4-2 c = absurd (omega (arith, listed-object c.args.e (other-single c.args.e c.requires (λ q. omega arith)) (omega arith) (λ q. omega arith)))
