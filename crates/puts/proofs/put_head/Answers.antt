use Rattle.lay.specs.Laid.{laid_then}
use Rattle.laws.specs.Put.{put_head}
use Rattle.puts.proofs.put_head.Goals as goal

pub returns : goal.returns
unfolding put_head
returns c = laid_then (laid_then (laid_then (laid_then c.put_v64-second.ensures c.put_option-third.ensures) c.put_option-fourth.ensures) c.put_v64-fifth.ensures) c.put_restrictions.ensures
