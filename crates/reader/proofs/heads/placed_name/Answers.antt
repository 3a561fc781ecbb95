-- `reader::heads::placed_name` meets its contract. Assumes nothing.
use Rattle.std.proofs.Common.{refl, arith}
use Rattle.reader.specs.HeadLaws.{placed-again, placed-known, placed-full, placed-new}
use Rattle.reader.proofs.heads.placed_name.Goals as goal

pub returns-then-entered : goal.returns-then-entered
returns-then-entered c = placed-again c.requires.ok c.in-Some.is (rw c.block.ensures at c.entered.ensures) c.if-entered.true

pub returns-then-t-ge-TYPES : goal.returns-then-t-ge-TYPES
returns-then-t-ge-TYPES c = placed-full c.requires.ok c.in-None.is (omega (arith, c.types-t.ensures, c.if-t-ge-TYPES.true))

pub returns-else-entered : goal.returns-else-entered
returns-else-entered c = placed-known c.requires.ok c.in-Some.is (rw c.block.ensures at c.entered.ensures) refl c.requires.found_below c.if-entered.false

pub returns-else-t-ge-TYPES : goal.returns-else-t-ge-TYPES
returns-else-t-ge-TYPES c = placed-new c.requires.ok c.in-None.is c.types-t.ensures refl (omega (arith, c.types-t.ensures, c.if-t-ge-TYPES.false))
