-- `regions::size_each` meets its contract. The invariant: the chunks that are left, from here, give the whole. Assumes nothing.
use Rattle.std.proofs.Common.{sym, ◌∙◌, arith}
use Rattle.regions.specs.Turns.{sizing-start, sizing-ready, sizing-next, sizing-bad, sizing-done}
use Rattle.regions.proofs.size_each.Goals as goal

pub loop-i-init : goal.loop-i-init
loop-i-init c = sizing-start _ c.requires.0

pub size_chunk-requires : goal.size_chunk-requires
size_chunk-requires c = sizing-ready c.requires.0 c.loop-i.invariant (omega arith) c.requires.1

pub shape_of-work-in_err-here : goal.shape_of-work-in_err-here
shape_of-work-in_err-here c = c.size_chunk.ensures.holds.ok.long ∙ sym c.requires.0.holds.ok.long

pub returns-in_err-here : goal.returns-in_err-here
returns-in_err-here c = rw c.from_residual.ensures (sizing-bad c.requires.0 c.loop-i.invariant (omega arith) c.size_chunk.ensures c.in_err-here.was)

pub loop-i-preserved : goal.loop-i-preserved
loop-i-preserved c = sizing-next c.requires.0 c.loop-i.invariant (omega arith) c.size_chunk.ensures c.in_ok-here.was

pub shape_of-work : goal.shape_of-work
shape_of-work c = c.loop-i.invariant.holds.ok.long ∙ sym c.requires.0.holds.ok.long

pub returns : goal.returns
returns c = sizing-done c.requires.0 c.loop-i.invariant (omega arith) (omega arith)
