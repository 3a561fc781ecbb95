use Rattle.std.proofs.Common.{sym, arith, rules}
use Rattle.paper.specs.Reader.{when◌then◌else◌}
use Rattle.lay.specs.Laid.{laid_as}
use Rattle.texts.specs.Elements.{in_bytes, bound_in, one_byte, four_bytes, eight-bytes, v64-kind, v64-bytes}
use Rattle.texts.proofs.elements.put_bits.Goals as goal

pub put_be-requires : goal.put_be-requires
unfolding bound_in when◌then◌else◌
put_be-requires c = (omega arith, λ w. rw c.in-8.is at c.requires.1)

pub put_be-requires-in-9 : goal.put_be-requires-in-9
put_be-requires-in-9 c = (omega arith, λ w. rw (four_bytes _ c.in-9.is).1 at c.requires.1)

pub put_be-requires-in-6-to-7 : goal.put_be-requires-in-6-to-7
put_be-requires-in-6-to-7 c = (omega arith, λ w. rw (one_byte _ c.requires.0 (omega arith)).1 at c.requires.1)

pub returns-in-8 : goal.returns-in-8
unfolding in_bytes when◌then◌else◌
returns-in-8 c = rw c.in-8.is c.put_be.ensures

pub returns-in-9 : goal.returns-in-9
returns-in-9 c = laid_as c.put_be-in-9.ensures (sym ((four_bytes _ c.in-9.is).0 _))

pub returns-in-10 : goal.returns-in-10
returns-in-10 c = laid_as c.put_be-in-10.ensures (sym (eight-bytes _ c.in-10.is _))

pub returns-in-6-to-7 : goal.returns-in-6-to-7
returns-in-6-to-7 c = laid_as c.put_be-in-6-to-7.ensures (sym ((one_byte _ c.requires.0 (omega arith)).0 _))

pub returns-in_default : goal.returns-in_default
returns-in_default c = laid_as c.put_v64.ensures (sym (v64-bytes _ _ (search (rules, v64-kind c.args.e (omega (arith, c.requires.0))))))
