use Rattle.trail.specs.Entries.{entry_past}
use Rattle.trail.proofs.trail.past_entry.Goals as goal

pub returns : goal.returns
returns c = entry_past c.past_olds-entry.ensures c.past_news-behind.ensures c.enter.ensures
