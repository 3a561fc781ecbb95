-- `reader::heads::local_start` meets its contract. Assumes nothing.
use Rattle.std.proofs.Common.{refl, arith}
use Rattle.reader.specs.CountLaws.{due-none, due-read, given-none, given-up}
use Rattle.reader.proofs.heads.local_start.Goals as goal

pub returns-then-up-eq0 : goal.returns-then-up-eq0
returns-then-up-eq0 c = due-none (given-none _ c.if-up-eq0.true) (omega arith) refl

pub returns : goal.returns
returns c = due-read (given-up _ c.if-up-eq0.false) c.small.ensures
