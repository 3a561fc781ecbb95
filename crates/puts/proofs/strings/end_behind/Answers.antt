use Rattle.std.proofs.Common.{arith}
use Rattle.puts.specs.Strings.{end_behind}
use Rattle.puts.proofs.strings.end_behind.Goals as goal

pub returns : goal.returns
unfolding end_behind
returns c = (c.min.ensures, omega (arith, c.min.ensures))
