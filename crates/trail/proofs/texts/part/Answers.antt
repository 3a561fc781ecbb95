use Rattle.std.proofs.Common.{arith}
use Rattle.trail.specs.Texts.{part-got}
use Rattle.trail.proofs.texts.part.Goals as goal

pub returns : goal.returns
returns c = part-got (omega arith) (omega arith)
