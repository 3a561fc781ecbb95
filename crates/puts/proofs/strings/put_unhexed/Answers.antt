use Rattle.puts.specs.Strings.{unhexed-laid}
use Rattle.puts.proofs.strings.put_unhexed.Goals as goal

pub returns : goal.returns
returns c = unhexed-laid c.hex_bytes-bytes.ensures
