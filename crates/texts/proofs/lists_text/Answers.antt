use Rattle.std.proofs.Common.{arith, rules}
use Rattle.lay.specs.Laid.{most}
use Rattle.texts.specs.Told.{told-all}
use Rattle.texts.proofs.lists_text.Goals as goal

pub returns : goal.returns
unfolding most
returns c = told-all (λ k lent x left met. search rules) (omega arith) (omega arith) c.each.ensures
