use Rattle.std.proofs.Common.{rules}
use Rattle.words.specs.Pairs.{paired}
use Rattle.words.proofs.read.copy_pairs.Goals as goal

pub copy_fours-requires : goal.copy_fours-requires
copy_fours-requires c = (c.requires.0, search rules)

pub halve_fours-requires : goal.halve_fours-requires
halve_fours-requires c = (c.copy_fours.ensures.long, c.requires.1)

pub returns : goal.returns
returns c = paired c.copy_fours.ensures c.halve_fours.ensures
