-- `reader::heads::is_string` meets its contract. Assumes nothing.
use Rattle.std.proofs.Common.{sym, ◌∙◌}
use Rattle.table.specs.View.{view}
use Rattle.reader.specs.HeadLaws.{string-zero, string-upto}
use Rattle.reader.proofs.heads.is_string.Goals as goal

pub returns-then-n-eq0 : goal.returns-then-n-eq0
returns-then-n-eq0 c = λ f h. string-zero (view f c.args.work.now) c.args.n c.if-n-eq0.true

pub returns : goal.returns
returns c = λ f h. string-upto (view f c.args.work.now) c.args.n _ c.if-n-eq0.false (h.strs-count ∙ sym c.strings.ensures)
