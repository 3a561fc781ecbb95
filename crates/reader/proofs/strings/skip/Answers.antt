-- `reader::strings::skip` meets its contract. Assumes nothing.
use Rattle.std.proofs.Common.{arith}
use Rattle.reader.specs.EndLaws.{skip-no, skip-got}
use Rattle.reader.proofs.strings.skip.Goals as goal

pub returns-then-file-at : goal.returns-then-file-at
returns-then-file-at c = skip-no _ _ _ (omega arith)

pub returns-then-file-at-2 : goal.returns-then-file-at-2
returns-then-file-at-2 c = skip-no _ _ _ (omega arith)

pub returns : goal.returns
returns c = skip-got _ _ _ (omega arith)
