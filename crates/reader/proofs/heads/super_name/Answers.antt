-- `reader::heads::super_name` meets its contract. Assumes nothing.
use Rattle.std.proofs.Common.{refl}
use Rattle.reader.specs.HeadLaws.{above_new, above-old}
use Rattle.reader.proofs.heads.super_name.Goals as goal

pub returns-then-name : goal.returns-then-name
returns-then-name c = above_new c.requires.resolved c.if-name.true c.named_super.ensures

pub returns : goal.returns
returns c = above-old c.requires.resolved c.if-name.false refl c.super_of-up.ensures
