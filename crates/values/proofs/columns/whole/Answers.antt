use Rattle.std.proofs.Common.{sym, ◌∙◌, arith}
use Rattle.paper.specs.Reader.{when◌then◌else◌}
use Rattle.values.specs.Bare.{bound_of, whole_made, whole-8}
use Rattle.values.specs.Columns.{held}
use Rattle.values.proofs.columns.whole.Goals as goal

pub signed-requires : goal.signed-requires
unfolding bound_of when◌then◌else◌
signed-requires c = (omega arith, omega arith, λ w. rw c.in-7.is at c.requires.2)

pub signed-requires-in-8 : goal.signed-requires-in-8
unfolding bound_of when◌then◌else◌
signed-requires-in-8 c = (omega arith, omega arith, λ w. rw c.in-8.is at c.requires.2)

pub signed-requires-in-9 : goal.signed-requires-in-9
unfolding bound_of when◌then◌else◌
signed-requires-in-9 c = (omega arith, omega arith, λ w. rw c.in-9.is at c.requires.2)

pub returns-in-7 : goal.returns-in-7
unfolding whole_made when◌then◌else◌
returns-in-7 c = rw c.in-7.is (held c.signed.type_inv c.signed.ensures)

pub returns-in-8 : goal.returns-in-8
unfolding whole_made when◌then◌else◌
returns-in-8 c = rw c.in-8.is (held c.signed-in-8.type_inv c.signed-in-8.ensures)

pub returns-in-9 : goal.returns-in-9
unfolding whole_made when◌then◌else◌
returns-in-9 c = rw c.in-9.is (held c.signed-in-9.type_inv c.signed-in-9.ensures)

pub returns-in_default : goal.returns-in_default
returns-in_default c = held c.signed-in_default.type_inv c.signed-in_default.ensures ∙ sym (whole-8 c.args.k c.args.n (omega arith))
