-- `reader::heads::enter_head` meets its contract. Assumes nothing.
use Rattle.numbers.specs.Cursors.{handed}
use Rattle.reader.specs.EnterLaws.{entered-no, top_placed, entered-top}
use Rattle.reader.proofs.heads.enter_head.Goals as goal

pub returns-in_err-top : goal.returns-in_err-top
returns-in_err-top c = rw (handed c.from_residual.ensures.1) (entered-no c.requires.holds c.read_head.ensures c.in_err-top.was)

pub enter_top-requires : goal.enter_top-requires
enter_top-requires c = record { holds = c.requires.holds; sound = c.requires.sound; placed = top_placed c.requires.holds c.read_head.ensures c.in_ok-top.was }

pub returns : goal.returns
returns c = entered-top c.requires.holds c.read_head.ensures c.in_ok-top.was c.enter_top.ensures
