use Rattle.std.proofs.Common.{arith}
use Rattle.reader.specs.KnownHeads.{byte-there}
use Rattle.reader.proofs.known.one_byte.Goals as goal

pub returns-then-file-at : goal.returns-then-file-at
returns-then-file-at c = λ lt. absurd (omega arith)

pub returns : goal.returns
returns c = λ lt. byte-there _ _ _ (omega arith) c.from.ensures lt
