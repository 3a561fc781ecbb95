use Rattle.std.proofs.Common.{arith}
use Rattle.words.specs.Stored.{short-long}
use Rattle.words.proofs.write.short_length.Goals as goal

pub returns : goal.returns
returns c = (short-long _ c.requires c.reached-3.ensures.0 c.reached-2.ensures.0 c.reached.ensures.0, omega (arith, c.reached-3.ensures.1, c.reached-2.ensures.1, c.reached.ensures.1))
