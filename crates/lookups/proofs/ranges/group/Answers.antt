-- The invariant: the ranges of the types from t on stand where they belong. Assumes nothing.
use Rattle.std.proofs.Common.{arith, ◌-◌}
use Rattle.lookups.specs.Group.{group-start, group-room, group-on, group-done}
use Rattle.lookups.proofs.ranges.group.Goals as goal

pub loop-t-init : goal.loop-t-init
loop-t-init c = group-start _ _ c.args.starts.now _ _ c.requires.starts_len.0 c.requires.starts_len.1 c.requires.starts_len.2 c.requires.ok.2

pub gather_asked-k-requires-clause-to_in_bounds : goal.gather_asked-k-requires-clause-to_in_bounds
gather_asked-k-requires-clause-to_in_bounds c = let G = c.loop-t.invariant in (omega (arith, G.below, G.first-long), omega (arith, G.below, G.last-long), group-room (c.loop-t.t - 1) G (omega arith), omega (arith, G.few))

pub loop-t-preserved : goal.loop-t-preserved
loop-t-preserved c = group-on (c.loop-t.t - 1) c.loop-t.invariant (omega arith) c.gather_asked-k.ensures

pub returns : goal.returns
returns c = group-done _ c.loop-t.invariant (omega arith)
