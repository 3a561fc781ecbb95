-- `lookups::objects::lies_at` meets its contract. Assumes nothing.
use Rattle.std.proofs.Common.{sym, ◌∙◌, arith}
use Rattle.paper.specs.Ledger.{holds?}
use Rattle.table.specs.View.{log_of}
use Rattle.table.specs.Answers.{no_range}
use Rattle.table.specs.ToldLaws.{any_at}
use Rattle.lookups.proofs.objects.lies_at.Goals as goal

pub returns : goal.returns
returns c = λ e. any_at (holds? c.args.t c.args.n) (log_of c.args.work.now) c.args.i no_range (omega (arith, c.requires.0.log-count, c.requires.1)) c.range_at.ensures.result_value (sym c.lies.ensures ∙ e)
