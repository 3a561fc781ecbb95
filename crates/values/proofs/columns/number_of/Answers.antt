use Rattle.std.proofs.Common.{◌≤◌, ◌<◌, ⊎_elim, arith, rules}
use Rattle.values.specs.Listed.{listed-low}
use Rattle.values.specs.Bare.{bare-byte, bare, bound_of, links-only, bare-link, bound-link}
use Rattle.paper.specs.Reader.{when◌then◌else◌}
use Rattle.values.proofs.columns.number_of.Goals as goal
use Rattle.values.proofs.columns.number_of.Goals.{in_default-via-then-k-lt6, in_default-via-else-k-lt6+else-k-lt8}

pub returns-in-8 : goal.returns-in-8
unfolding bare bound_of when◌then◌else◌
returns-in-8 c = rw c.in-8.is (c.be.ensures.reads (omega arith))

pub returns-in-9 : goal.returns-in-9
unfolding bare bound_of when◌then◌else◌
returns-in-9 c = ⊎_elim (λ e. rw e (c.be-in-9.ensures.reads (omega arith))) (λ e. rw e (c.be-in-9.ensures.reads (omega arith))) c.in-9.is

pub returns-in-10 : goal.returns-in-10
unfolding bare bound_of when◌then◌else◌
returns-in-10 c = ⊎_elim (λ e. rw e (c.be-in-10.ensures.reads (omega arith))) (λ e. rw e (c.be-in-10.ensures.reads (omega arith))) c.in-10.is

pub returns-in-11 : goal.returns-in-11
unfolding bare bound_of when◌then◌else◌
returns-in-11 c = rw c.in-11.is c.v64.ensures

pub returns-in-6-to-7 : goal.returns-in-6-to-7
returns-in-6-to-7 c = let is = bare-byte c.args.k (omega arith) (omega arith) in rw (is.0, is.1) (c.be-in-6-to-7.ensures.reads (omega arith))

pub returns-in_default : goal.returns-in_default
returns-in_default c = let low = listed-low c.args.k c.requires in
    let h : 8 ≤ c.args.k = elim c.in_default.branch [
      | in_default-via-then-k-lt6 w ↦ absurd (omega arith)
      | in_default-via-else-k-lt6+else-k-lt8 w ↦ omega arith
    ] in
    let l : 13 < c.args.k = search (rules, links-only c.args.k h) in
    rw (bare-link c.args.k l, bound-link c.args.k l) c.number_up_to.ensures
