-- `reader::strings::read_strings` meets its contract. Assumes nothing.
use Rattle.std.proofs.Common.{arith}
use Rattle.numbers.specs.Cursors.{handed}
use Rattle.reader.specs.EndLaws.{refused-number, too_many, next-inside, ends-refused, block-done}
use Rattle.reader.proofs.strings.read_strings.Goals as goal

pub returns-in_err-n : goal.returns-in_err-n
returns-in_err-n c = rw (handed c.from_residual.ensures.1) (refused-number c.requires.holds c.requires.at_in_bounds c.v64.ensures c.in_err-n.was)

pub returns-then-room-n : goal.returns-then-room-n
returns-then-room-n c = too_many c.requires.holds c.requires.at_in_bounds c.v64.ensures c.in_ok-n.was (omega (arith, c.strings.ensures))

pub overflow_add-base : goal.overflow_add-base
overflow_add-base c = omega (arith, next-inside c.requires.holds c.requires.at_in_bounds c.v64.ensures c.in_ok-n.was, c.requires.holds.small, c.if-room-n.false)

pub returns-in_err-last : goal.returns-in_err-last
returns-in_err-last c = rw (handed c.from_residual-in_err-last.ensures.1) (ends-refused c.requires.holds c.requires.at_in_bounds c.v64.ensures c.in_ok-n.was (omega (arith, c.strings.ensures, c.if-room-n.false)) c.read_ends.ensures c.in_err-last.was)

pub returns : goal.returns
returns c = block-done c.requires.holds c.requires.at_in_bounds c.v64.ensures c.in_ok-n.was (omega (arith, c.strings.ensures, c.if-room-n.false)) c.read_ends.ensures c.in_ok-last.was c.skip.ensures
