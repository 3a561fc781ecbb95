use Rattle.std.proofs.Common.{arith}
use Rattle.build.specs.Pairs.{fits_not, fits-so}
use Rattle.build.specs.Puts.{pair-no-front, front-ready, pair-no-values, sized-ready, pair-long, pair-done}
use Rattle.build.proofs.pairs.count_pair.Goals as goal

pub returns-in_err-front : goal.returns-in_err-front
returns-in_err-front c = rw c.from_residual.ensures (pair-no-front c.requires c.front_text.ensures c.in_err-front.was)

pub size_chunks-requires : goal.size_chunks-requires
size_chunks-requires c = front-ready c.requires c.front_text.ensures c.in_ok-front.was

pub returns-in_err-next : goal.returns-in_err-next
returns-in_err-next c = rw c.from_residual-in_err-next.ensures (pair-no-values c.requires c.front_text.ensures c.in_ok-front.was c.size_chunks.ensures c.in_err-next.was)

pub returns-then-not-fits : goal.returns-then-not-fits
returns-then-not-fits c = pair-long c.requires c.front_text.ensures c.in_ok-front.was c.size_chunks.ensures c.in_ok-next.was c.region_size-size.ensures (fits_not c.fits.ensures c.if-not-fits.true-raw)

pub next_block-requires : goal.next_block-requires
next_block-requires c = record { ok = c.size_chunks.ensures.holds.ok; work_bound = omega (arith, (sized-ready c.requires c.front_text.ensures c.in_ok-front.was c.size_chunks.ensures c.in_ok-next.was).sound.block) }

pub returns : goal.returns
returns c = pair-done c.requires c.front_text.ensures c.in_ok-front.was c.size_chunks.ensures c.in_ok-next.was c.region_size-size.ensures (fits-so c.fits.ensures c.if-not-fits.false-raw) c.strings-known.ensures c.put_front-values.ensures c.add_up-end.ensures c.next_block.ensures
