use Rattle.trail.specs.Entries.{fields-past}
use Rattle.trail.proofs.trail.past_olds.Goals as goal

pub returns : goal.returns
returns c = fields-past c.past_head-top.ensures c.past-n.ensures c.had-have.ensures c.given-known.ensures c.beyond-more.ensures c.past_ends-olds.ensures
