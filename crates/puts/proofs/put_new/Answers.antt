use Rattle.lay.specs.Laid.{laid_then}
use Rattle.laws.specs.Put.{put_new}
use Rattle.puts.proofs.put_new.Goals as goal

pub returns : goal.returns
unfolding put_new
returns c = laid_then (laid_then (laid_then c.put_v64-second.ensures c.put_kind-third.ensures) c.put_v64-fourth.ensures) c.put_v64.ensures
