use Rattle.std.proofs.Common.{eq-eqb, ne_eqb, le-leb}
use borrow.Author.Tests.{lt-leb}
use Rattle.trail.specs.Heads.{head-past}
use Rattle.trail.proofs.trail.past_head.Goals as goal

pub returns : goal.returns
returns c = head-past c.past-n.ensures c.string_at-name.ensures c.find-typ.ensures c.past_super-up.ensures (λ z. simp (eq-eqb _ _ z)) (λ z. simp (ne_eqb _ _ z)) c.past_due-local.ensures c.past-count.ensures (λ z. lt-leb _ _ z) (λ z. le-leb _ _ z) c.past_due-none.ensures
