-- `table::ranges::is_clear` meets its contract. Assumes nothing.
use Rattle.std.proofs.Common.{◌-◌, arith, eq-eqb, ne_eqb}
use Rattle.paper.specs.Ledger.{here?}
use Rattle.paper.specs.Rules.{clear?}
use Rattle.table.specs.View.{types_of}
use Rattle.table.specs.Below.{not-below, is_below}
use Rattle.table.proofs.ranges.is_clear.Goals as goal

pub returns-then-r-b : goal.returns-then-r-b
unfolding clear? here?
returns-then-r-b c = simp (ne_eqb _ _ c.if-r-b.true)

pub returns-then-super_of-up : goal.returns-then-super_of-up
unfolding clear? here?
returns-then-super_of-up c = simp (eq-eqb _ _ c.if-r-b.false, not-below (types_of c.args.work.now) c.args.r.typ (c.args.up - 1) {s = c.super_of.result} c.super_of.ensures (λ e. c.if-super_of-up.true (omega arith)))

pub returns : goal.returns
unfolding clear? here?
returns c = simp (eq-eqb _ _ c.if-r-b.false, is_below (types_of c.args.work.now) c.args.r.typ (c.args.up - 1) {s = c.super_of.result} c.super_of.ensures (omega (arith, c.if-super_of-up.false)))
