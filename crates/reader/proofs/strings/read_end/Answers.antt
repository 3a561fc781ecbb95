-- `reader::strings::read_end` meets its contract. Assumes nothing.
use Rattle.std.proofs.Common.{arith}
use Rattle.numbers.specs.Cursors.{handed}
use Rattle.reader.specs.EndLaws.{end_refused, end-fell, end_read}
use Rattle.reader.proofs.strings.read_end.Goals as goal

pub returns-in_err-e : goal.returns-in_err-e
returns-in_err-e c = rw (handed c.from_residual.ensures.1) (end_refused c.requires.holds (c.be.ensures.reads (omega arith)) c.in_err-e.was)

pub returns-then-e-prev : goal.returns-then-e-prev
returns-then-e-prev c = end-fell c.requires.holds (c.be.ensures.reads (omega arith)) c.in_ok-e.was c.if-e-prev.true

pub returns : goal.returns
returns c = end_read c.requires.holds (c.be.ensures.reads (omega arith)) c.in_ok-e.was c.requires.work_bound c.if-e-prev.false c.place_in-start.ensures c.place_in-end.ensures c.push_string.ensures.push
