use Rattle.std.proofs.Common.{arith, refl}
use Rattle.lay.specs.Laid.{most, laid_as}
use Rattle.words.specs.ReadHexes.{unhexing-start}
use Rattle.words.specs.Blocks.{unhexed-long, pairs-over, unhexing-over, unhexing-rest}
use Rattle.words.proofs.read.Place.hex_bytes.Goals as goal

pub loop-bytes-init : goal.loop-bytes-init
unfolding most
loop-bytes-init c = (unhexing-start _ _ (omega arith) (omega arith), refl)

pub loop-bytes-preserved : goal.loop-bytes-preserved
loop-bytes-preserved c = (
  unhexing-over c.loop-bytes.invariant.0 _ (pairs-over 32 _ _ (c.unhex_block.ensures c.loop-bytes-test.true).there)
      (laid_as c.put_bytes-q.ensures (c.unhex_block.ensures c.loop-bytes-test.true).bytes),
  rw (c.unhex_block.ensures c.loop-bytes-test.true).bytes (unhexed-long 32 _ _),
)

pub returns : goal.returns
returns c = unhexing-rest c.loop-bytes.invariant.0 c.hex_pairs.ensures
