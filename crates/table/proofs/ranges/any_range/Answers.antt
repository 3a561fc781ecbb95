-- `table::ranges::any_range` meets its contract. Assumes nothing.
use Rattle.std.proofs.Common.{sym, ◌∙◌, arith}
use Rattle.table.specs.View.{log_of}
use Rattle.table.specs.Answers.{no_range}
use Rattle.table.specs.Loops.{any_here, any-on, any-end}
use Rattle.table.proofs.ranges.any_range.Goals as goal

pub returns-then-passes : goal.returns-then-passes
returns-then-passes g c = λ p tests. sym (c.loop-i.invariant p tests ∙ any_here p (log_of c.args.work.now) c.loop-i.i no_range (omega arith) c.range_at.ensures.result_value (tests _ _ c.passes.ensures) c.if-passes.true)

pub loop-i-preserved : goal.loop-i-preserved
loop-i-preserved g c = λ p tests. c.loop-i.invariant p tests ∙ any-on p (log_of c.args.work.now) c.loop-i.i no_range (omega arith) c.range_at.ensures.result_value (tests _ _ c.passes.ensures) c.if-passes.false

pub returns : goal.returns
returns g c = λ p tests. sym (c.loop-i.invariant p tests ∙ any-end p (log_of c.args.work.now) c.loop-i.i (omega arith))
