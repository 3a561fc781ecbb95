use Rattle.std.proofs.Common.{length}
use Rattle.paper.specs.Numbers.{v64}
use Rattle.values.specs.Pass.{Running}
use Rattle.values.specs.Overs.{Looks}
use Rattle.values.proofs.runs.v64s.Given as goal

abbrev pub invariant-loop-n : goal.invariant-loop-n
invariant-loop-n l = Running v64 l.part l.m l.initial.here.at l.rest l.here.at × Looks (length l.part) l.here.at l.rest l.n

abbrev pub decreases-loop-n : goal.decreases-loop-n
decreases-loop-n l = l.rest
