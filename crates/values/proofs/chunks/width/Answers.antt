use Rattle.std.proofs.Common.{sym, ap, ⊎_elim, arith, rules}
use Rattle.paper.specs.Reader.{when◌then◌else◌}
use Rattle.values.specs.Listed.{width_of, width-most}
use Rattle.values.proofs.chunks.width.Goals as goal

pub returns-in-7 : goal.returns-in-7
unfolding width_of when◌then◌else◌
returns-in-7 c = (sym (ap width_of c.in-7.is), omega arith)

pub returns-in-8 : goal.returns-in-8
unfolding width_of when◌then◌else◌
returns-in-8 c = (sym (ap width_of c.in-8.is), omega arith)

pub returns-in-9 : goal.returns-in-9
unfolding width_of when◌then◌else◌
returns-in-9 c = (⊎_elim (λ e. sym (ap width_of e)) (λ e. sym (ap width_of e)) c.in-9.is, omega arith)

pub returns-in_default : goal.returns-in_default
returns-in_default c = (search (rules, width-most), omega arith)
