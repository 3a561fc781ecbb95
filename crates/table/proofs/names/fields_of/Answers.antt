-- `table::names::fields_of` meets its contract. Assumes nothing.
use Rattle.std.proofs.Common.{refl, arith, eq-eqb, ne_eqb}
use Rattle.paper.specs.Ledger.{no_field, owns?}
use Rattle.table.specs.View.{flds_of}
use Rattle.table.specs.Loops.{places-here, places-on}
use Rattle.table.proofs.names.fields_of.Goals as goal
use Rattle.table.proofs.names.fields_of.Goals.{then-row-t, else-row-t}

pub loop-i-preserved : goal.loop-i-preserved
unfolding owns?
loop-i-preserved c = let a = c.args in
    let i = c.loop-i.i in
    elim c.if-row-t.branch [
      | then-row-t w ↦ let on = places-here (owns? a.t) (flds_of a.work.now) i no_field (omega arith) c.field_at-row.ensures.result_value refl (eq-eqb _ _ w.if-row-t.true) in (omega arith, omega (arith, c.loop-i.invariant.1))
      | else-row-t w ↦ let on = places-on (owns? a.t) (flds_of a.work.now) i no_field (omega arith) c.field_at-row.ensures.result_value refl (ne_eqb _ _ w.if-row-t.false) in (omega arith, omega (arith, c.loop-i.invariant.1))
    ]
