-- `reader::heads::placed_super` meets its contract. Assumes nothing.
use Rattle.std.proofs.Common.{refl, arith}
use borrow.Author.Tests.{not-true}
use Rattle.reader.specs.HeadLaws.{super-unknown, super-round, super-known}
use Rattle.reader.proofs.heads.placed_super.Goals as goal

pub returns-in_default : goal.returns-in_default
returns-in_default c = super-unknown c.in_default.is

pub overflow_add-up : goal.overflow_add-up
overflow_add-up c = omega (arith, rw c.in-Some.is at c.requires.found_below, c.requires.ok.types-fit)

pub returns-then-not-chain_ends : goal.returns-then-not-chain_ends
returns-then-not-chain_ends c = super-round c.in-Some.is c.chain_ends.ensures (not-true _ c.if-not-chain_ends.true-raw)

pub returns : goal.returns
returns c = super-known c.in-Some.is c.chain_ends.ensures refl c.if-not-chain_ends.false
