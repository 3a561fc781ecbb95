use Rattle.std.proofs.Common.{arith}
use Rattle.walk.specs.FileLaws.{file-long, all-bytes, walk-ready, file-read}
use Rattle.numbers.specs.Ruled.{within, beyond}
use Rattle.walk.proofs.pairs.read.Goals as goal

pub returns-then-not-fits : goal.returns-then-not-fits
returns-then-not-fits c = file-long (beyond c.fits.ensures c.if-not-fits.true-raw)

pub pairs-requires : goal.pairs-requires
pairs-requires c = walk-ready _ (within c.fits.ensures c.if-not-fits.false-raw) c.begin.ensures (all-bytes c.args.file.now (λ i. omega (arith, c.shared_slice_known-1.given i)))

pub returns : goal.returns
returns c = file-read _ (within c.fits.ensures c.if-not-fits.false-raw) c.begin.ensures c.pairs.ensures
