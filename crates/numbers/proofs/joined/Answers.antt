use mir.Facts.{Fits-of_lt}
use Rattle.numbers.proofs.WordLaws.{joining}
use Rattle.numbers.proofs.joined.Goals as goal

pub overflow_sub-twos : goal.overflow_sub-twos
overflow_sub-twos c = (joining c.args.x).less

pub overflow_add-fours : goal.overflow_add-fours
overflow_add-fours c = Fits-of_lt (joining c.args.x).fours

pub overflow_add-result : goal.overflow_add-result
overflow_add-result c = Fits-of_lt (joining c.args.x).fits

pub returns : goal.returns
returns c = (joining c.args.x).is
