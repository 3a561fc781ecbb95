use Rattle.std.proofs.Common.{arith}
use Rattle.calls.specs.Fill.{storing-start, storing-done, storing-on, chunk-ready}
use Rattle.calls.proofs.fills.fill_column.Goals as goal

pub chunks-n-requires : goal.chunks-n-requires
chunks-n-requires c = c.requires.holds.ok

pub loop-j-init : goal.loop-j-init
loop-j-init c = storing-start

pub chunk_at-d-requires : goal.chunk_at-d-requires
chunk_at-d-requires c = record { ok = c.requires.holds.ok; i_bound = omega arith }

pub fill_chunk-at-requires : goal.fill_chunk-at-requires
fill_chunk-at-requires c = chunk-ready c.loop-j.invariant (omega (arith, c.requires.holds.ok.chunks-count)) c.chunk_at-d.ensures.result_value c.requires

pub loop-j-preserved : goal.loop-j-preserved
loop-j-preserved c = storing-on c.loop-j.invariant (omega (arith, c.requires.holds.ok.chunks-count)) c.chunk_at-d.ensures.result_value c.fill_chunk-at.auto.out c.fill_chunk-at.ensures

pub shape_of-out : goal.shape_of-out
shape_of-out c = c.loop-j.invariant.long

pub returns : goal.returns
returns c = storing-done c.loop-j.invariant (omega (arith, c.requires.holds.ok.chunks-count))
