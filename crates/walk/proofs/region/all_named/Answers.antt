-- `walk::region::all_named` meets its contract. The invariant: the kinds that are left give the whole. Assumes nothing.
use Rattle.std.proofs.Common.{arith, ◌≡◌, ◌+◌, ◌-◌}
use borrow.Author.Tests.{not-true}
use Rattle.lookups.specs.Bytes.{none-asked, asked-first, asked-out, asked-on}
use Rattle.walk.proofs.region.all_named.Goals as goal

pub returns-then-count-eq0 : goal.returns-then-count-eq0
returns-then-count-eq0 c = none-asked _ _ c.if-count-eq0.true

pub returns-then-not-is_named : goal.returns-then-not-is_named
returns-then-not-is_named c = asked-out _ c.loop.invariant (omega arith) c.is_named.ensures (not-true _ c.if-not-is_named.true-raw)

pub loop-preserved : goal.loop-preserved
loop-preserved c = let less : c.args.count + 1 - c.loop.counter - 1 ≡ c.args.count + 1 - (c.loop.counter + 1) = omega arith in rw (← less) (asked-on _ c.loop.invariant (omega arith) c.is_named.ensures c.if-not-is_named.false)

pub returns : goal.returns
returns c = asked-first _ c.loop.invariant (omega arith) c.is_named-2.ensures
