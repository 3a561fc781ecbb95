-- `reader::heads::range_for` meets its contract. Assumes nothing.
use Rattle.std.proofs.Common.{refl}
use Rattle.reader.proofs.heads.range_for.Goals as goal

pub returns : goal.returns
returns c = rw (c.block-b.ensures, rw c.block-b.ensures at c.pool_before-before.ensures.value) refl
