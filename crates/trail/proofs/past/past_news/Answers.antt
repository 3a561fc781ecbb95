use Rattle.paper.specs.Rules.{any_type}
use Rattle.paper.specs.File.{new_field, upto_new}
use Rattle.trail.specs.Told.{end_of, going_start, going_on, going_done, new-on}
use Rattle.trail.proofs.past.past_news.Goals as goal

pub loop-init : goal.loop-init
loop-init c = λ t. going_start (new_field any_type t) (upto_new t) end_of _ _ _ _

pub loop-preserved : goal.loop-preserved
loop-preserved c = λ t. going_on (new_field any_type t) (upto_new t) end_of (c.loop.invariant t) c.loop-test.true (λ u e. new-on c.past_new-here.ensures t u)

pub returns : goal.returns
returns c = λ t u e. going_done (new_field any_type t) (upto_new t) end_of (c.loop.invariant t) c.loop-test.false u e
