use Rattle.words.specs.ReadDecimals.{digit-reckoned}
use Rattle.words.proofs.read.digit.Goals as goal

pub returns : goal.returns
returns c = digit-reckoned _ c.requires
