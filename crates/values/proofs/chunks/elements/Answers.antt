use Rattle.std.proofs.Common.{arith}
use Rattle.values.specs.Listed.{Fixed, listed-low, listed-object, other-single}
use Rattle.values.specs.Items.{checked-by, item-annotation, item-bool, item-v64, item-string, item-object, item-fixed}
use Rattle.values.proofs.chunks.elements.Goals as goal

pub returns-in-5 : goal.returns-in-5
returns-in-5 c = checked-by c.requires.0 _ (item-annotation _ _ _ _ _ c.in-5.is) c.annotations.ensures

pub returns-in-6 : goal.returns-in-6
returns-in-6 c = checked-by c.requires.0 _ (item-bool _ _ _ _ _ c.in-6.is) c.bools.ensures

pub returns-in-11 : goal.returns-in-11
returns-in-11 c = checked-by c.requires.0 _ (item-v64 _ _ _ _ _ c.in-11.is) c.v64s.ensures

pub returns-in-14 : goal.returns-in-14
returns-in-14 c = checked-by c.requires.0 _ (item-string _ _ _ _ _ c.in-14.is) c.string_numbers.ensures

pub returns-in-7-to-10 : goal.returns-in-7-to-10
returns-in-7-to-10 c = let is : Fixed c.args.k = record { low = omega arith; high = omega arith; not-v64 = λ q. omega arith } in
    checked-by c.requires.0 _ (rw c.width.ensures.0 (item-fixed _ _ _ _ _ is)) c.fixed_widths.ensures

pub returns-in-32-to-18446744073709551615 : goal.returns-in-32-to-18446744073709551615
returns-in-32-to-18446744073709551615 c = checked-by c.requires.0 _ (item-object _ _ _ _ _ (omega arith)) c.guided_references.ensures

pub returns-in-0-to-4 : goal.returns-in-0-to-4
returns-in-0-to-4 c = absurd (omega (arith, listed-low c.args.k (other-single c.args.k c.requires.0 (λ q. omega arith))))

pub returns-in-0-to-4-2 : goal.returns-in-0-to-4-2
returns-in-0-to-4-2 c = absurd (omega (arith, listed-object c.args.k (other-single c.args.k c.requires.0 (λ q. omega arith)) (omega arith) (λ q. omega arith)))
