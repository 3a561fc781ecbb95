use Rattle.std.proofs.Common.{arith}
use Rattle.lay.specs.Laid.{most, leads-start, leads-on, leads-end}
use Rattle.puts.specs.Strings.{ends_more, ends-none}
use Rattle.puts.proofs.strings.put_ends.Goals as goal

pub strings-i-end-requires : goal.strings-i-end-requires
strings-i-end-requires c = c.requires.ok

pub loop-i-init : goal.loop-i-init
unfolding most
loop-i-init c = (omega arith, leads-start (omega arith) (omega arith))

pub string_at-requires : goal.string_at-requires
string_at-requires c = record { ok = c.requires.ok; i_bound = omega arith }

pub digits-s-requires : goal.digits-s-requires
digits-s-requires c = c.string_at.ensures.within _ c.requires

pub end_behind-end-requires : goal.end_behind-end-requires
end_behind-end-requires c = c.loop-i.invariant.0

pub put_be-p-requires : goal.put_be-p-requires
put_be-p-requires c = (omega arith, λ w. c.end_behind-end.ensures.1)

pub loop-i-preserved : goal.loop-i-preserved
loop-i-preserved c = (c.end_behind-end.ensures.1, leads-on c.loop-i.invariant.1 (ends_more _ _ (omega (arith, c.requires.strs-count)) c.string_at.ensures c.digits-s.ensures _ _ c.end_behind-end.ensures.0) c.put_be-p.ensures)

pub shape_of-out : goal.shape_of-out
shape_of-out c = c.loop-i.invariant.1.long

pub returns : goal.returns
returns c = leads-end c.loop-i.invariant.1 (ends-none _ _ c.loop-i.i (omega (arith, c.requires.strs-count)) _)
