use Rattle.build.specs.Puts.{front-lays}
use Rattle.build.proofs.pairs.put_front.Goals as goal

pub returns : goal.returns
returns c = front-lays c.put_strings-behind_strings.ensures c.put_v64-behind_count.ensures c.put_entries.ensures
