-- `reader::strings::place_in` meets its contract. Assumes nothing.
use Rattle.std.proofs.Common.{arith}
use Rattle.reader.specs.StringLaws.{placed_end, placed-in}
use Rattle.reader.proofs.strings.place_in.Goals as goal

pub returns-then-len-base : goal.returns-then-len-base
returns-then-len-base c = placed_end _ _ _ (omega arith)

pub returns-then-len-base-2 : goal.returns-then-len-base-2
returns-then-len-base-2 c = placed_end _ _ _ (omega arith)

pub returns : goal.returns
returns c = placed-in _ _ _ (omega arith)
