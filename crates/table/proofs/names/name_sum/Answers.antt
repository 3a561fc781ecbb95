-- `table::names::name_sum` meets its contract. Assumes nothing.
use Rattle.std.proofs.Common.{sym, refl, ◌∙◌, arith}
use Rattle.table.specs.View.{sum_of}
use Rattle.table.specs.NameLaws.{sum-on, sum-end}
use Rattle.table.proofs.names.name_sum.Goals as goal

pub loop-i-init : goal.loop-i-init
unfolding sum_of
loop-i-init c = (omega arith, refl)

pub loop-i-preserved : goal.loop-i-preserved
loop-i-preserved c = let name = c.args.name.now in
    let sum = c.loop-i.sum in
    let i = c.loop-i.i in
    (omega (arith, c.wrapping_add_u16-sum.ensures), c.loop-i.invariant.1 ∙ sum-on name sum i (omega arith) ∙ rw (c.wrapping_add_u16-sum.ensures.value, c.weighed.ensures) refl)

pub returns : goal.returns
returns c = sym (c.loop-i.invariant.1 ∙ sum-end c.args.name.now c.loop-i.sum c.loop-i.i (omega arith))
