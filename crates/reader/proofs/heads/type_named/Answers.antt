-- `reader::heads::type_named` meets its contract. Assumes nothing.
use Rattle.reader.specs.HeadLaws.{looked-up}
use Rattle.reader.proofs.heads.type_named.Goals as goal

pub returns : goal.returns
returns c = looked-up c.requires.holds c.find_type.result c.find_type.ensures
