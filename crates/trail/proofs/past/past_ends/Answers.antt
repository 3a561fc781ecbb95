use Rattle.std.proofs.Common.{refl}
use Rattle.paper.specs.File.{end_offset}
use Rattle.trail.specs.Told.{same, after, going_start, going_on, going_done, end-past}
use Rattle.trail.proofs.past.past_ends.Goals as goal

pub loop-init : goal.loop-init
loop-init c = going_start end_offset after same _ _ _ _

pub loop-preserved : goal.loop-preserved
loop-preserved c = going_on end_offset after same c.loop.invariant c.loop-test.true (λ s e. end-past c.past-here.ensures s)

pub returns : goal.returns
returns c = going_done end_offset after same c.loop.invariant c.loop-test.false _ refl
