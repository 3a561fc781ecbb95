use Rattle.std.proofs.Common.{rules}
use Rattle.build.specs.Pairs.{fits_not, fits-so}
use Rattle.build.specs.Call.{build-bad, build-over, build-no-room, file-given, lent, build-written}
use Rattle.build.proofs.write_file.Goals as goal

pub returns-in_default : goal.returns-in_default
returns-in_default c = build-bad c.count_file-a.ensures c.in_default.is

pub returns-then-not-fits : goal.returns-then-not-fits
returns-then-not-fits c = build-over c.count_file-a.ensures c.in-Some.is (fits_not c.fits.ensures c.if-not-fits.true-raw)

pub returns-then-out-count : goal.returns-then-out-count
returns-then-out-count c = build-no-room c.count_file-a.ensures c.in-Some.is (fits-so c.fits.ensures c.if-not-fits.false-raw) c.if-out-count.true

pub slice_bounds-fill_file-end-3 : goal.slice_bounds-fill_file-end-3
slice_bounds-fill_file-end-3 c = lent _ _ c.if-out-count.false

pub fill_file-requires : goal.fill_file-requires
fill_file-requires c = (search rules, c.requires.1, file-given c.count_file-a.ensures c.in-Some.is (fits-so c.fits.ensures c.if-not-fits.false-raw) (search rules))

pub returns : goal.returns
returns c = build-written c.count_file-a.ensures c.in-Some.is (fits-so c.fits.ensures c.if-not-fits.false-raw) c.if-out-count.false c.fill_file.ensures
