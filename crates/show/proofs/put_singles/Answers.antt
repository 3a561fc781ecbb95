use Rattle.std.proofs.Common.{arith}
use Rattle.show.specs.Lines.{element-low}
use Rattle.show.proofs.put_singles.Goals as goal

pub put_other_lines-requires : goal.put_other_lines-requires
put_other_lines-requires c = record { low = element-low _ c.requires c.if-e-eq5.false; high = omega arith; other = c.if-e-eq11.false }
