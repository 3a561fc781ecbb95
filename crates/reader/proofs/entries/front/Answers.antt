use Rattle.numbers.specs.Cursors.{handed}
use Rattle.reader.specs.EntryLaws.{front-unstrung, still-sound, front-uncounted, front-got}
use Rattle.reader.proofs.entries.front.Goals as goal

pub returns-in_err-after_strings : goal.returns-in_err-after_strings
returns-in_err-after_strings c = rw (handed c.from_residual.ensures.1) (front-unstrung _ _ c.read_strings.ensures c.in_err-after_strings.was)

pub returns-in_err-n : goal.returns-in_err-n
returns-in_err-n c = rw (handed c.from_residual-in_err-n.ensures.1) (front-uncounted _ _ c.read_strings.ensures c.in_ok-after_strings.was c.small.ensures c.in_err-n.was)

pub entries-requires : goal.entries-requires
entries-requires c = (c.read_strings.ensures.holds, still-sound _ c.read_strings.ensures c.in_ok-after_strings.was c.requires.1)

pub returns : goal.returns
returns c = front-got _ _ c.read_strings.ensures c.in_ok-after_strings.was c.small.ensures c.in_ok-n.was c.entries.ensures
