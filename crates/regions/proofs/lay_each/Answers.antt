-- `regions::lay_each` meets its contract. The invariant: the chunks that are left, from here, give the whole. Assumes nothing.
use Rattle.std.proofs.Common.{refl, sym, ◌∙◌, arith}
use Rattle.regions.specs.Both.{both-start, both-bad, both-next, both-done}
use Rattle.regions.specs.Turns.{sizing-ready}
use Rattle.lay.specs.Laid.{most}
use Rattle.regions.proofs.lay_each.Goals as goal

pub loop-i-init : goal.loop-i-init
unfolding most
loop-i-init c = both-start c.requires.0 _ _ _ (omega arith) (omega arith) refl

pub lay_due-requires : goal.lay_due-requires
lay_due-requires c = sizing-ready c.requires.0 c.loop-i.invariant.sizing (omega arith) c.requires.1

pub shape_of-work-in_err-here : goal.shape_of-work-in_err-here
shape_of-work-in_err-here c = c.lay_due.ensures.holds.ok.long ∙ sym c.requires.0.holds.ok.long

pub returns-in_err-here : goal.returns-in_err-here
returns-in_err-here c = rw c.from_residual.ensures (both-bad c.requires.0 c.loop-i.invariant (omega arith) c.lay_due.ensures c.in_err-here.was)

pub loop-i-preserved : goal.loop-i-preserved
loop-i-preserved c = both-next c.requires.0 c.loop-i.invariant (omega arith) c.lay_due.ensures c.in_ok-here.was

pub shape_of-work : goal.shape_of-work
shape_of-work c = c.loop-i.invariant.sizing.holds.ok.long ∙ sym c.requires.0.holds.ok.long

pub returns : goal.returns
returns c = both-done c.requires.0 c.loop-i.invariant (omega arith) (omega arith)
