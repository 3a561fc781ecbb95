-- `reader::heads::judged_super` meets its contract. Assumes nothing.
use Rattle.std.proofs.Common.{refl, arith}
use Rattle.reader.specs.HeadLaws.{super-none, super-far, super-placed}
use Rattle.reader.proofs.heads.judged_super.Goals as goal

pub returns-then-n-eq0 : goal.returns-then-n-eq0
returns-then-n-eq0 c = super-none c.requires _ c.if-n-eq0.true refl

pub returns-then-strings-n : goal.returns-then-strings-n
returns-then-strings-n c = super-far c.requires _ (omega (arith, c.if-strings-n.true, c.strings.ensures))

pub returns : goal.returns
returns c = super-placed c.requires _ c.if-n-eq0.false (omega (arith, c.if-strings-n.false, c.strings.ensures)) c.type_named-known.ensures c.placed_super.ensures
