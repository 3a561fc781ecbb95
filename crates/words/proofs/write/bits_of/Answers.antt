use Rattle.std.proofs.Common.{◌∙◌}
use Rattle.words.specs.Signs.{machine-bits}
use Rattle.words.proofs.write.bits_of.Goals as goal

pub returns : goal.returns
returns c = c.cast_unsigned.ensures ∙ machine-bits c.args.z c.ranges.z
