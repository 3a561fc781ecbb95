-- `lookups::ranges::put_range` meets its contract. Assumes nothing.
use Rattle.lookups.specs.Gather.{put-before, put-longer}
use Rattle.lookups.proofs.ranges.put_range.Goals as goal

pub returns-then-end-last : goal.returns-then-end-last
returns-then-end-last c = put-longer _ _ _ _ c.args.first.now c.args.last.now c.requires.0 c.requires.1 c.requires.2 c.if-k-to.true c.if-first-k.true c.if-end-last.true c.requires.4

pub returns : goal.returns
returns c = put-before _ _ _ _ c.args.first.now c.args.last.now c.requires.0 c.requires.1 c.requires.2 c.requires.3
