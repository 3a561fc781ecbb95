use Rattle.std.proofs.Common.{arith}
use Rattle.calls.specs.Told.{nothing_lent}
use Rattle.listing.specs.Text.{text-no-room, text-written}
use Rattle.listing.proofs.count_and_write.Goals as goal

pub returns-then-out-count : goal.returns-then-out-count
returns-then-out-count c = text-no-room (nothing_lent c.print_file-count.new.out _ c.print_file-count.auto.out) c.print_file-count.ensures (omega arith) c.if-out-count.true

pub returns : goal.returns
returns c = text-written (nothing_lent c.print_file-count.new.out _ c.print_file-count.auto.out) c.print_file-count.ensures (omega arith) c.if-out-count.false c.print_file.ensures
