use Rattle.puts.specs.Strings.{digits_are}
use Rattle.puts.proofs.strings.digits.Goals as goal

pub returns : goal.returns
returns c = rw c.min-start.ensures (digits_are _ _ c.requires)
