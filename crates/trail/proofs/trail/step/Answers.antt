use Rattle.trail.specs.Stages.{step_block, step-entry}
use Rattle.trail.proofs.trail.step.Goals as goal

pub returns-then-t-eq0 : goal.returns-then-t-eq0
returns-then-t-eq0 c = step_block c.if-t-eq0.true c.next_block.ensures

pub returns : goal.returns
returns c = step-entry c.if-t-eq0.false c.past_entry.ensures
