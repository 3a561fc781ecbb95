use Rattle.paper.specs.File.{end_offset}
use Rattle.trail.specs.Told.{same, after, Going}
use Rattle.trail.proofs.past.past_ends.Given as goal

abbrev pub invariant-loop : goal.invariant-loop
invariant-loop l = Going end_offset after same l.n l.file l.initial.here.at l.last l.counter l.here
