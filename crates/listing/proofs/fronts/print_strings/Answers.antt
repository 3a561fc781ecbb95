use Rattle.std.proofs.Common.{arith}
use Rattle.lay.specs.Laid.{most}
use Rattle.listing.specs.Fronts.{strings-start, strings-on, strings-done}
use Rattle.listing.proofs.fronts.print_strings.Goals as goal

pub strings-n-requires : goal.strings-n-requires
strings-n-requires c = c.requires.ok

pub loop-i-init : goal.loop-i-init
unfolding most
loop-i-init c = strings-start _ _ _ _ _ (omega arith) (omega arith)

pub string_at-requires : goal.string_at-requires
string_at-requires c = record { ok = c.requires.ok; i_bound = omega arith }

pub put_part-p-requires : goal.put_part-p-requires
put_part-p-requires c = c.string_at.ensures.within _ c.requires

pub loop-i-preserved : goal.loop-i-preserved
loop-i-preserved c = strings-on c.loop-i.invariant (omega (arith, c.requires.strs-count)) c.string_at.ensures c.put_part-p.ensures

pub shape_of-out : goal.shape_of-out
shape_of-out c = c.loop-i.invariant.leads.long

pub returns : goal.returns
returns c = strings-done c.loop-i.invariant (omega (arith, c.requires.strs-count))
