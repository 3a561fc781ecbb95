use Rattle.std.proofs.Common.{refl}
use Rattle.paper.specs.Listing.{ascii}
use Rattle.streams.specs.Answers.{refusal-laid}
use Rattle.streams.proofs.put_refused.Goals as goal

pub returns : goal.returns
unfolding ascii
returns c = refusal-laid _ c.put_bytes-second.ensures c.put_decimal-end.ensures c.put_bytes.ensures refl refl
