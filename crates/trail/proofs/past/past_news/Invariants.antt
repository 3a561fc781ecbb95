use Rattle.std.proofs.Common.{ℕ}
use Rattle.paper.specs.Rules.{any_type}
use Rattle.paper.specs.File.{new_field, upto_new}
use Rattle.trail.specs.Told.{end_of, Going}
use Rattle.trail.proofs.past.past_news.Given as goal

abbrev pub invariant-loop : goal.invariant-loop
invariant-loop l = (t : ℕ) → Going (new_field any_type t) (upto_new t) end_of l.n l.file l.initial.here.at l.last l.counter l.here
