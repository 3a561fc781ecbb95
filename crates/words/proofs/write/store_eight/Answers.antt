use Rattle.words.specs.Stored.{sets-lasts}
use Rattle.words.proofs.write.store_eight.Goals as goal

pub returns : goal.returns
returns c = sets-lasts _ _ 4 4 _ c.store_four.ensures c.store_four-2.ensures
