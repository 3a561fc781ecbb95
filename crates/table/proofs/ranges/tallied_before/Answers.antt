-- `table::ranges::tallied_before` meets its contract. Assumes nothing.
use Rattle.std.proofs.Common.{sym, ◌∙◌, arith}
use Rattle.table.specs.Tells.{pool-all}
use Rattle.table.proofs.ranges.tallied_before.Goals as goal

pub returns-then-c-b : goal.returns-then-c-b
returns-then-c-b c = let on = c.told.ensures c.if-not-told.false in
    λ le. c.tally_at.ensures ∙ (c.requires.telling on.0).sums c.args.t on.1 ∙ sym (pool-all c.requires on.0 c.args.t on.1 c.args.b (omega (arith, c.tally_at-c.ensures, c.if-c-b.true)))
