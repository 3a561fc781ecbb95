use Rattle.numbers.proofs.WordLaws.{marked}
use Rattle.numbers.proofs.ends.Goals as goal

pub overflow_sub-result : goal.overflow_sub-result
overflow_sub-result c = (marked c.args.x).0

pub returns : goal.returns
returns c = (marked c.args.x).1
