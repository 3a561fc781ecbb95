-- `reader::heads::type_restrictions` meets its contract. Assumes nothing.
use Rattle.std.proofs.Common.{refl, arith}
use borrow.Author.Tests.{not-true}
use Rattle.reader.specs.CountLaws.{due-none, due-read}
use Rattle.reader.proofs.heads.type_restrictions.Goals as goal

pub returns-then-not-fresh : goal.returns-then-not-fresh
returns-then-not-fresh c = due-none (not-true _ c.if-not-fresh.true-raw) (omega arith) refl

pub returns : goal.returns
returns c = due-read c.if-not-fresh.false c.no_restrictions.ensures
