-- `table::pushes::note` meets its contract. Assumes nothing.
use Rattle.std.proofs.Common.{refl}
use Rattle.table.specs.Notes.{note-taken}
use Rattle.table.proofs.pushes.note.Goals as goal

pub returns : goal.returns
returns c = note-taken _ _ c.requires.ok c.requires.i_bound.0 refl
