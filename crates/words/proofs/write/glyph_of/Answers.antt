use Rattle.std.proofs.Common.{arith}
use Rattle.words.specs.Backwards.{glyph-reckoned}
use Rattle.words.proofs.write.glyph_of.Goals as goal

pub returns : goal.returns
returns c = omega (arith, glyph-reckoned c.args.d c.requires)
