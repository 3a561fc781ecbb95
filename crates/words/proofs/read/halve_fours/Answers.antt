use Rattle.std.proofs.Common.{arith, length-set}
use Rattle.words.specs.Pairs.{halved_none, halved-on, halved-all}
use Rattle.words.proofs.read.halve_fours.Goals as goal

pub loop-i-init : goal.loop-i-init
loop-i-init c = halved_none _ _ c.requires.1

pub bounds-pairs-i-in-loop-i : goal.bounds-pairs-i-in-loop-i
bounds-pairs-i-in-loop-i c = rw length-set (omega (arith, c.loop-i.invariant.long))

pub loop-i-preserved : goal.loop-i-preserved
loop-i-preserved c = halved-on c.loop-i.invariant (omega arith)

pub returns : goal.returns
returns c = halved-all c.loop-i.invariant (omega arith)
