use Rattle.reader.specs.EnterLaws.{type-known, range-fits, entered}
use Rattle.reader.specs.KnownHeads.{known-range}
use Rattle.reader.proofs.known.enter_known.Goals as goal

pub push_range-requires : goal.push_range-requires
push_range-requires c = let both = range-fits c.requires.holds c.requires.placed c.requires.sound c.base_for-base.ensures (known-range _ c.args.top _ c.block-b.ensures c.pool_before-before.ensures.value) (type-known c.requires.holds _ _ c.requires.fresh_value) in record { ok = both.0; work_bound = both.1.0; small = both.1.1 }

pub returns : goal.returns
returns c = entered c.requires.holds c.requires.placed c.requires.sound c.base_for-base.ensures (known-range _ c.args.top _ c.block-b.ensures c.pool_before-before.ensures.value) (type-known c.requires.holds _ _ c.requires.fresh_value) c.push_range.ensures
