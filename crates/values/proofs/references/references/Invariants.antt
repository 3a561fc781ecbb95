use Rattle.values.specs.Items.{linked, some_object}
use Rattle.values.specs.Pass.{Running}
use Rattle.values.proofs.references.references.Given as goal

abbrev pub invariant-loop-rest : goal.invariant-loop-rest
invariant-loop-rest l = Running (linked (some_object l.ranges.first.now l.ranges.last.now)) l.part l.m l.initial.here.at l.rest l.here.at

abbrev pub decreases-loop-rest : goal.decreases-loop-rest
decreases-loop-rest l = l.rest
