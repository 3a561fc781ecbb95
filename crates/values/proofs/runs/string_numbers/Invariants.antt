use Rattle.std.proofs.Common.{length}
use Rattle.values.specs.Items.{linked, at_most}
use Rattle.values.specs.Pass.{Running}
use Rattle.values.specs.Ups.{Surely}
use Rattle.values.proofs.runs.string_numbers.Given as goal

abbrev pub invariant-loop-n : goal.invariant-loop-n
invariant-loop-n l = Running (linked (at_most l.strings)) l.part l.m l.initial.here.at l.rest l.here.at × Surely (length l.part) l.here.at l.rest l.n

abbrev pub decreases-loop-n : goal.decreases-loop-n
decreases-loop-n l = l.rest
