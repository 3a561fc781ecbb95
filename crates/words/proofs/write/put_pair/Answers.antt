use Rattle.std.proofs.Common.{rules}
use Rattle.lay.specs.Laid.{laid_then, laid_as}
use Rattle.words.specs.Hexes.{hex-pair}
use Rattle.words.proofs.write.put_pair.Goals as goal

pub returns : goal.returns
returns c = laid_as (rw c.from-x.ensures at (laid_then c.put_glyph-next.ensures c.put_glyph.ensures)) (hex-pair c.args.b (search rules))
