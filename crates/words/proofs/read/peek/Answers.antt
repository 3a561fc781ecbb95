use Rattle.std.proofs.Common.{arith}
use Rattle.words.specs.ReadBytes.{peeked-in, peeked-past}
use Rattle.words.proofs.read.peek.Goals as goal

pub returns-then-at-t : goal.returns-then-at-t
returns-then-at-t c = rw c.from.ensures (peeked-in _ _ (omega arith) (omega (arith, c.type_inv.t c.args.at)))

pub returns : goal.returns
returns c = peeked-past _ _ (omega arith)
