-- `table::ranges::sum_of` meets its contract. Assumes nothing.
use Rattle.std.proofs.Common.{arith}
use Rattle.paper.specs.Ledger.{size}
use Rattle.table.specs.View.{log_of}
use Rattle.table.specs.Answers.{no_range}
use Rattle.table.specs.Loops.{total_here, total-on, total-end}
use Rattle.table.proofs.ranges.sum_of.Goals as goal
use Rattle.table.proofs.ranges.sum_of.Goals.{then-passes, else-passes}

pub loop-i-preserved : goal.loop-i-preserved
unfolding size
loop-i-preserved g c = let log = log_of c.args.work.now in
    elim c.if-passes.branch [
      | then-passes w ↦ record {
        value = λ p tests. let on = total_here p log c.loop-i.i no_range (omega arith) c.range_at-r.ensures.result_value (tests _ _ c.passes.ensures) size w.if-passes.true in omega (arith, c.loop-i.invariant.value p tests);
        upper_bound = omega (arith, c.range_at-r.ensures.small.count_fits);
      }
      | else-passes w ↦ record {
        value = λ p tests. let on = total-on p log c.loop-i.i no_range (omega arith) c.range_at-r.ensures.result_value (tests _ _ c.passes.ensures) size w.if-passes.false in omega (arith, c.loop-i.invariant.value p tests);
        upper_bound = omega arith;
      }
    ]

pub returns : goal.returns
returns g c = record {
  value = λ p tests. let none_left = total-end p (log_of c.args.work.now) c.loop-i.i size (omega arith) in omega (arith, c.loop-i.invariant.value p tests);
  upper_bound = omega arith;
}
