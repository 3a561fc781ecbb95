use Rattle.std.proofs.Common.{arith}
use Rattle.lay.specs.Laid.{most, leads-start, leads-on, leads-end}
use Rattle.puts.specs.Strings.{bytes-more, bytes-none}
use Rattle.puts.proofs.strings.put_string_bytes.Goals as goal

pub strings-i-end-requires : goal.strings-i-end-requires
strings-i-end-requires c = c.requires.ok

pub loop-i-init : goal.loop-i-init
unfolding most
loop-i-init c = leads-start (omega arith) (omega arith)

pub string_at-requires : goal.string_at-requires
string_at-requires c = record { ok = c.requires.ok; i_bound = omega arith }

pub digits-requires : goal.digits-requires
digits-requires c = c.string_at.ensures.within _ c.requires

pub loop-i-preserved : goal.loop-i-preserved
loop-i-preserved c = leads-on c.loop-i.invariant (bytes-more _ _ (omega (arith, c.requires.strs-count)) c.string_at.ensures c.digits.ensures) c.put_unhexed-p.ensures

pub shape_of-out : goal.shape_of-out
shape_of-out c = c.loop-i.invariant.long

pub returns : goal.returns
returns c = leads-end c.loop-i.invariant (bytes-none _ _ c.loop-i.i (omega (arith, c.requires.strs-count)))
