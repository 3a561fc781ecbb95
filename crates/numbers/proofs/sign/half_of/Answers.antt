use Rattle.std.proofs.Common.{refl}
use Rattle.numbers.proofs.SignLaws.{halved}
use Rattle.numbers.proofs.sign.half_of.Goals as goal

pub returns : goal.returns
returns g c = halved _ _ c.requires.0 c.requires.1 refl
