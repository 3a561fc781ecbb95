use Rattle.numbers.proofs.WordLaws.{up-to-bit}
use Rattle.numbers.proofs.up_to.Goals as goal

pub returns : goal.returns
returns c = up-to-bit c.args.x c.args.bit c.requires
