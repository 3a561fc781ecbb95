use Rattle.numbers.specs.Cursors.{handed}
use Rattle.walk.specs.PairLaws.{pair-begins, pair-no-front}
use Rattle.walk.specs.PairWays.{region-short, late-asks, kind-late, region-asks, region-refused, pair_ends}
use Rattle.walk.proofs.pairs.pair.Goals as goal

pub front-requires : goal.front-requires
front-requires c = pair-begins c.requires

pub returns-in_err-size : goal.returns-in_err-size
returns-in_err-size c = rw (handed c.from_residual.ensures.1) (pair-no-front c.requires c.front.ensures c.in_err-size.was)

pub returns-then-file-at : goal.returns-then-file-at
returns-then-file-at c = region-short c.requires c.front.ensures c.in_ok-size.was c.if-file-at.true

pub late_kind-requires : goal.late_kind-requires
late_kind-requires c = late-asks c.requires c.front.ensures c.in_ok-size.was c.counts-before.ensures

pub returns-then-not-kinds_stand : goal.returns-then-not-kinds_stand
returns-then-not-kinds_stand c = kind-late c.requires c.front.ensures c.in_ok-size.was c.counts-before.ensures c.kinds_stand.ensures c.if-file-at.false c.if-not-kinds_stand.true-raw c.late_kind.ensures

pub region-requires : goal.region-requires
region-requires c = region-asks c.requires c.front.ensures c.in_ok-size.was c.counts-before.ensures c.kinds_stand.ensures c.if-file-at.false

pub returns-in_err-end : goal.returns-in_err-end
returns-in_err-end c = rw (handed c.from_residual-in_err-end.ensures.1) (region-refused c.requires c.front.ensures c.in_ok-size.was c.counts-before.ensures c.kinds_stand.ensures c.if-file-at.false c.if-not-kinds_stand.false-raw c.region.ensures c.in_err-end.was)

pub returns : goal.returns
returns c = pair_ends c.requires c.front.ensures c.in_ok-size.was c.counts-before.ensures c.kinds_stand.ensures c.if-file-at.false c.if-not-kinds_stand.false-raw c.region.ensures c.in_ok-end.was c.next_block.ensures
