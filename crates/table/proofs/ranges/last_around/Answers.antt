-- `table::ranges::last_around` meets its contract. Assumes nothing.
use Rattle.std.proofs.Common.{sym, ◌∙◌, arith}
use Rattle.paper.specs.Rules.{around?}
use Rattle.table.specs.View.{log_of}
use Rattle.table.specs.Answers.{no_range}
use Rattle.table.specs.ToldLaws.{any_at}
use Rattle.table.proofs.ranges.last_around.Goals as goal

pub returns : goal.returns
returns c = λ e. any_at (around? c.args.b c.args.u c.args.start c.args.n) (log_of c.args.work.now) c.tally_at-i.result no_range (omega (arith, c.requires.log-count, c.ranges-2.ensures, c.if-ranges-i.false)) c.range_at-r.ensures.result_value (sym c.is_around.ensures ∙ e)
